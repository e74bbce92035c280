-- Which keys changed rows touch.
use Rattle.std.specs.Prelude.{◌≡◌, ℕ, true, List}
use Rattle.lt_face.specs.Lists.{IsIn}
use Rattle.lt_face.specs.State.{Row, State, AgreeOn}
use Rattle.lt_query.specs.Lists.{IsRising}
use Rattle.lt_sense.specs.Kept.{Sense}
use Rattle.lt_sense.specs.Sense.{covers}
use Rattle.lt_join.specs.Slices.{Slice}
use Rattle.lt_join.specs.Mended.{Touches}
use Rattle.lt_join.specs.Sliced.{united}

-- ---- of a list of changed rows

-- a changed row touches the key
abbrev pub IsTouched : Sense → List Slice → List (ℕ × Row) → ℕ → Type 0
IsTouched root slices changes k = (change : ℕ × Row) × IsIn change changes × Touches root slices change.0 change.1 k

-- ascending, these are the keys that changed rows touch
pub record AreTouched (root : Sense) (slices : List Slice) (changes : List (ℕ × Row)) (keys : List ℕ) : Type 0 where
  pub ascending : IsRising keys
  pub all : (k : ℕ) → IsTouched root slices changes k → IsIn k keys
  pub no_other : (k : ℕ) → IsIn k keys → IsTouched root slices changes k

-- the changes have each row on which the states don't agree and that the root gaps or the slices cover
abbrev pub NameCovered : List (ℕ × Row) → Sense → List Slice → State → State → Type 0
NameCovered changes root slices s t =
    (relation : ℕ) (row : Row) → (AgreeOn s t relation row → ⊥) → covers (united root slices) relation row ≡ true → IsIn (relation, row) changes

-- the same numbers
pub record HaveSame (one other : List ℕ) : Type 0 where
  pub there : (k : ℕ) → IsIn k one → IsIn k other
  pub back : (k : ℕ) → IsIn k other → IsIn k one
