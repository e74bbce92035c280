-- What a walk over the levels of a plan has established.
use Rattle.std.specs.Prelude.{◌≡◌, ℕ, ◌+◌, ◌<◌, ◌≤◌, true, ◌==◌, nat_lt, if◌then◌else◌, List, [], ◌∷◌, map, ◌⊎◌}
use Rattle.std.specs.List.{AllByRecursion}
use Rattle.lt_face.specs.Lists.{IsIn}
use Rattle.lt_face.specs.State.{Row}
use Rattle.lt_model.specs.declared.normal.Body.{Body}
use Rattle.lt_model.specs.Answers.{Assignment, holds}
use Rattle.lt_model.specs.Cells.{is_cell}
use Rattle.lt_sense.specs.Kept.{Sense}
use Rattle.lt_sense.specs.declared.covering.KeptGap.{KeptGap}
use Rattle.lt_sense.specs.declared.covering.Hit.{Hit}
use Rattle.lt_face.specs.Lists.{AnyByRecursion}
use Rattle.lt_query.specs.declared.plans.Level.{Level}
use Rattle.lt_query.specs.declared.plans.Guide.{Guide}
use Rattle.lt_query.specs.Plan.{Keys, keys_under, levels_of}

-- the key is each pin, and the key of each tied level
abbrev pub Fits : Level → Keys → ℕ → Type 0
Fits level keys k = AllByRecursion (λ pin. pin ≡ k) level.pins × AllByRecursion (λ l. keys l ≡ k) level.ties

-- the levels before this one
abbrev pub before : ℕ → List ℕ → List ℕ
before l [] = []
before l (m ∷ ms) = if nat_lt m l then m ∷ before l ms else []

-- the atom's cells above the level
abbrev pub prefix_at : Guide → ℕ → Keys → Row
prefix_at guide l keys = map keys (before l (levels_of guide))

-- the key lies in a gap of the atom at this level, under the keys above
pub record IsPassed (sense : Sense) (l : ℕ) (keys : Keys) (k : ℕ) (guide : Guide) : Type 0 where
  pub gap : KeptGap
  pub kept : IsIn gap sense.gaps
  pub relation : gap.relation ≡ guide.relation
  pub columns : gap.columns ≡ guide.columns
  pub prefix : gap.prefix ≡ prefix_at guide l keys
  pub at : IsIn l (levels_of guide)
  pub from : gap.lo ≤ k
  pub below : k < gap.hi

-- the keys with one more
abbrev pub with_key : Keys → ℕ → ℕ → Keys
with_key keys l k m = if m == l then k else keys m

-- keys that are the same below a level
abbrev pub AgreeBelow : ℕ → Keys → Keys → Type 0
AgreeBelow l x y = (m : ℕ) → m < l → x m ≡ y m

-- nothing holds that has these keys at the levels before this one
abbrev pub IsHopeless : Body → List Level → ℕ → Keys → Type 0
IsHopeless body levels l keys = (a : Assignment) → AgreeBelow l keys (keys_under a levels) → holds a body ≡ true → ⊥

-- each cell lies in a gap, or something else lets what has it be left out, or the levels below are explored under it
abbrev pub Explored : Sense → List Guide → (ℕ → Keys → Type 0) → (Keys → Type 0) → List Level → ℕ → Keys → Type 0
Explored sense guides Out Leaf [] l keys = Leaf keys
Explored sense guides Out Leaf (level ∷ levels) l keys =
    (k : ℕ) → is_cell k ≡ true →
    AnyByRecursion (IsPassed sense l keys k) guides ⊎ (Out (l + 1) (with_key keys l k) ⊎ Explored sense guides Out Leaf levels (l + 1) (with_key keys l k))

-- the row of an atom under the keys
abbrev pub hit_of : Keys → Guide → Hit
hit_of keys guide = record { relation = guide.relation; row = map keys guide.places }

-- each atom's row is a hit
abbrev pub AreHits : Sense → List Guide → Keys → Type 0
AreHits sense guides keys = AllByRecursion (λ (guide : Guide). IsIn (hit_of keys guide) sense.hits) guides

-- each level's key fits, from this level on
abbrev pub FitFrom : ℕ → List Level → Keys → Type 0
FitFrom l [] keys = Unit {0}
FitFrom l (level ∷ levels) keys = Fits level keys (keys l) × FitFrom (l + 1) levels keys
