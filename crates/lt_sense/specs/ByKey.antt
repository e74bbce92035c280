-- What an evaluation key by key of its first variable was sensitive to: gaps between the keys, and what each key's own part was.
use Rattle.std.specs.Prelude.{◌≡◌, ◌<◌, ℕ, Bool, not, ◌&&◌, ◌||◌, ◌==◌, nat_lt, if◌then◌else◌, List, [], ◌∷◌, ◌++◌, ◌⊎◌, length, filter}
use Rattle.std.specs.List.{list_any, flat_map, AllByRecursion}
use Rattle.lt_face.specs.Lists.{IsIn}
use Rattle.lt_face.specs.State.{Row, permuted}
use Rattle.lt_sense.specs.declared.covering.KeptGap.{KeptGap}
use Rattle.lt_sense.specs.declared.covering.Hit.{Hit}
use Rattle.lt_sense.specs.Clipped.{begins}
use Rattle.lt_sense.specs.Kept.{Sense}
use Rattle.lt_sense.specs.Sense.{gap_covers, covers}
use Rattle.lt_sense.specs.Spans.{AreBelowEnd}

-- what the part of one key was sensitive to
pub record KeySense : Type 0 where
  pub key : ℕ
  pub sense : Sense

-- the gaps between the keys (root), and the parts of the keys
pub record ByKey : Type 0 where
  pub root : Sense
  pub slices : List KeySense

-- what they keep together
abbrev pub united_by_key : ByKey → Sense
united_by_key all = record {
  gaps = all.root.gaps ++ flat_map (λ (slice : KeySense). slice.sense.gaps) all.slices;
  hits = all.root.hits ++ flat_map (λ (slice : KeySense). slice.sense.hits) all.slices;
}

-- ---- which keys a row touches

-- the row lies in the gap, and its first cell in the gap's order of columns is the key
abbrev pub gap_at : ℕ → KeptGap → ℕ → Row → Bool
gap_at key gap relation row = gap_covers gap relation row && begins key (permuted gap.columns row)

abbrev pub have_at : ℕ → List KeptGap → ℕ → Row → Bool
have_at key gaps relation row = list_any (λ (gap : KeptGap). gap_at key gap relation row) gaps

-- it is the part of this key, and covers the row
abbrev pub slice_at : ℕ → KeySense → ℕ → Row → Bool
slice_at key slice relation row = slice.key == key && covers slice.sense relation row

abbrev pub slices_at : ℕ → List KeySense → ℕ → Row → Bool
slices_at key slices relation row = list_any (λ (slice : KeySense). slice_at key slice relation row) slices

-- a root gap has the row at the key, or the key's part covers it
abbrev pub touches : ByKey → ℕ → ℕ → Row → Bool
touches all key relation row = have_at key all.root.gaps relation row || slices_at key all.slices relation row

-- the numbers that were there stay, and those that the word tells come, in whatever order
pub record GainsJust (tells : ℕ → Type 0) (old new : List ℕ) : Type 0 where
  pub stay : (k : ℕ) → IsIn k old → IsIn k new
  pub come : (k : ℕ) → tells k → IsIn k new
  pub no_other : (k : ℕ) → IsIn k new → IsIn k old ⊎ tells k

-- ---- parts that come and go

-- before the first part of a greater key
abbrev pub put_slice : KeySense → List KeySense → List KeySense
put_slice slice [] = slice ∷ []
put_slice slice (x ∷ xs) = if nat_lt slice.key x.key then slice ∷ x ∷ xs else x ∷ put_slice slice xs

-- whether the key is one of these
abbrev pub has_key : List ℕ → ℕ → Bool
has_key keys key = list_any (λ k. k == key) keys

-- the parts of other keys
abbrev pub slices_without : List ℕ → List KeySense → List KeySense
slices_without keys slices = filter (λ (slice : KeySense). not (has_key keys slice.key)) slices

-- a row of which it may be asked whether it touches the key: one of cells, some, and as many as those rows of its relation have that
-- the key's part met
pub record IsAskableAt (all : ByKey) (key relation : ℕ) (row : Row) : Type 0 where
  pub some : 0 < length row
  pub below : AreBelowEnd row
  pub hits : AllByRecursion (λ (slice : KeySense). slice.key ≡ key → AllByRecursion (λ (hit : Hit). hit.relation ≡ relation → length hit.row ≡ length row) slice.sense.hits) all.slices
