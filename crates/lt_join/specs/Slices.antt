-- What a body answers key by key of its first variable: how slices are seen, and how they are made up of senses and rows.
use Rattle.std.specs.Prelude.{◌<◌, ℕ, Bool, nat_lt, ◌==◌, if◌then◌else◌, List, [], ◌∷◌, ◌++◌, map, filter}
use Rattle.std.specs.List.{AllByRecursion, flat_map}
use Rattle.lt_face.specs.Lists.{IsIn}
use Rattle.lt_face.specs.State.{Row}
use Rattle.lt_query.specs.Lists.{IsRising}
use Rattle.lt_sense.specs.Kept.{Sense}
use Rattle.lt_sense.specs.ByKey.{KeySense}

-- what a body answers under one key of its first variable, and what that was sensitive to
pub record Slice : Type 0 where
  pub key : ℕ
  pub rows : List Row
  pub sense : Sense

-- the gaps of the first level, and the slices
pub record SlicesView : Type 0 where
  pub root : Sense
  pub slices : List Slice

-- ---- as they are kept: senses by key, and rows of those keys that have some

-- the rows of a key
pub record KeyRows : Type 0 where
  pub key : ℕ
  pub rows : List Row

abbrev pub row_keys : List KeyRows → List ℕ
row_keys all = map (λ (r : KeyRows). r.key) all

abbrev pub sense_keys : List KeySense → List ℕ
sense_keys senses = map (λ (s : KeySense). s.key) senses

-- the rows that stand with this key
abbrev pub rows_at : ℕ → List KeyRows → List Row
rows_at k [] = []
rows_at k (r ∷ all) = if r.key == k then r.rows else rows_at k all

abbrev pub slice_of : List KeyRows → KeySense → Slice
slice_of all s = record { key = s.key; rows = rows_at s.key all; sense = s.sense }

abbrev pub slices_of : List KeyRows → List KeySense → List Slice
slices_of all senses = map (slice_of all) senses

-- senses and rows stand in the order of their keys, and no rows stand without a sense
pub record AreKeyed (senses : List KeySense) (all : List KeyRows) : Type 0 where
  pub senses_rise : IsRising (sense_keys senses)
  pub rows_rise : IsRising (row_keys all)
  pub has : AllByRecursion (λ k. IsIn k (sense_keys senses)) (row_keys all)

-- ---- how rows of keys come

-- rows of one key, where there are some
abbrev pub rows_of_key : ℕ → List Row → List KeyRows
rows_of_key key [] = []
rows_of_key key (row ∷ rows) = record { key = key; rows = row ∷ rows } ∷ []

abbrev pub is_below : ℕ → KeyRows → Bool
is_below k r = nat_lt r.key k

abbrev pub is_above : ℕ → KeyRows → Bool
is_above k r = nat_lt k r.key

-- the rows of this key in the place of those that stood there
abbrev pub put_rows : ℕ → List Row → List KeyRows → List KeyRows
put_rows key rows all = filter (is_below key) all ++ (rows_of_key key rows ++ filter (is_above key) all)

-- all rows, key after key
abbrev pub rows_in : List KeyRows → List Row
rows_in all = flat_map (λ (r : KeyRows). r.rows) all

-- each key of these rows is below this one
abbrev pub AreBelow : List KeyRows → ℕ → Type 0
AreBelow all key = AllByRecursion (λ (r : KeyRows). r.key < key) all
