-- What takes a state back to an earlier one.
use Rattle.std.specs.Prelude.{◌≡◌, ℕ, Bool, true, List, reverse}
use Rattle.lt_face.specs.State.{State}
use Rattle.lt_model.specs.Fits.{FitMarks}
use Rattle.lt_model.specs.Marks.{Marks, laid}
use Rattle.lt_base.specs.Tables.{Table, state_of, has_index}

-- the state after these edits, of which the last is made first
abbrev pub undone : State → Marks → State
undone state edits = laid state (reverse edits)

-- the edits fit the state, and lead back to the base
pub record IsBack (base state : State) (edits : Marks) : Type 0 where
  pub fits : FitMarks state edits
  pub back : undone state edits ≡ base

-- The marks were written. Where it is logged, what led back to some state before does so behind them, with what was noted since.
pub record IsWritten (marks : Marks) (logs : Bool) (old new : List Table) (before after : Marks) : Type 0 where
  pub state : state_of new ≡ laid (state_of old) marks
  pub indexes : (relation : ℕ) (columns : List ℕ) → has_index new relation columns ≡ has_index old relation columns
  pub back : logs ≡ true → (base : State) → IsBack base (state_of old) before → IsBack base (state_of new) after
