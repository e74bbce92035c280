-- Versions that are published while a line of batches runs.
use Rattle.std.specs.Prelude.{◌≡◌, ◌++◌, List, fold, map}
use Rattle.lt_face.specs.State.{State}
use Rattle.lt_model.specs.Marks.{Marks, laid}
use Rattle.lt_base.specs.Tables.{Table, state_of}
use Rattle.lt_batch.specs.Line.{states_by}

-- the database, the versions, and what was written of each that was published
pub record Published : Type 0 where
  pub database : List Table
  pub versions : List (List Table)
  pub given : List Marks

-- From this state on these marks were laid, one list after another, and each state that came of it was made a version behind those
-- that there were.
pub record IsPublished (start : State) (before : List State) (database : List Table) (versions : List (List Table)) (given : List Marks) : Type 0 where
  pub now : state_of database ≡ fold laid start given
  pub versions_are : map state_of versions ≡ before ++ states_by start given
