-- The changed rows that a sense covers.
use Rattle.std.specs.Prelude.{◌≡◌, ℕ, true, false, List, ◌⊎◌, Some, slice_get}
use Rattle.std.specs.Ordering.{is_lt}
use Rattle.lt_face.specs.Lists.{IsIn}
use Rattle.lt_face.specs.State.{Row, State}
use Rattle.lt_base.specs.Changed.{differ_on}
use Rattle.lt_sense.specs.Kept.{Sense}
use Rattle.lt_sense.specs.Sense.{covers}
use Rattle.lt_restate.specs.Touches.{change_cmp}

-- what was there stays, and what comes is told by the word
pub record GainsOnly {X : Type 0} (tells : X → Type 0) (old new : List X) : Type 0 where
  pub stay : (x : X) → IsIn x old → IsIn x new
  pub only : (x : X) → IsIn x new → IsIn x old ⊎ tells x

abbrev pub HasAll : {X : Type 0} → (X → Type 0) → List X → Type 0
HasAll tells xs = (x : _) → tells x → IsIn x xs

-- the sense covers the row, and the states differ on it
pub record IsCoveredChange (sense : Sense) (s t : State) (change : ℕ × Row) : Type 0 where
  pub covered : covers sense change.0 change.1 ≡ true
  pub differs : differ_on s t change.0 change.1 ≡ true

-- the rows are those that the sense covers and on which the states differ, and no other
pub record AreCoveredChanges (sense : Sense) (s t : State) (changes : List (ℕ × Row)) : Type 0 where
  pub each : (change : ℕ × Row) → IsIn change changes → IsCoveredChange sense s t change
  pub all : HasAll (IsCoveredChange sense s t) changes

-- none of the rows comes before the one at the place
pub record IsFirstAt (changes : List (ℕ × Row)) (place : ℕ) : Type 0 where
  pub first : ℕ × Row
  pub is_there : slice_get changes place ≡ Some first
  pub least : (other : ℕ × Row) → IsIn other changes → is_lt (change_cmp other first) ≡ false
