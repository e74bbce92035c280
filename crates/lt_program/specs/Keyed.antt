-- Runs leave one row for a key.
use Rattle.std.specs.Prelude.{List}
use Rattle.std.specs.List.{AllByRecursion}
use Rattle.lt_face.specs.State.{State}
use Rattle.lt_model.specs.declared.normal.Stmt.{Stmt}
use Rattle.lt_model.specs.Fits.{Fits}
use Rattle.lt_model.specs.Marks.{laid}
use Rattle.lt_model.specs.Run.{run}
use Rattle.lt_model.specs.Serial.{serial}
use Rattle.lt_model.specs.State.{IsState}
use Rattle.lt_model.specs.Keyed.{Keys, IsKeyed, InsertsBy}

-- what a program writes leaves one row for a key
abbrev pub RunsStayKeyed : Type 0
RunsStayKeyed =
    (keys : Keys) (state : State) (program : List Stmt) → IsState state → Fits state program → AllByRecursion (InsertsBy keys) program → IsKeyed keys state → IsKeyed keys (laid state (run program state).1)

-- so do programs one after another
abbrev pub SerialStaysKeyed : Type 0
SerialStaysKeyed =
    (keys : Keys) (state : State) (programs : List (List Stmt)) → IsState state → AllByRecursion (Fits state) programs → AllByRecursion (AllByRecursion (InsertsBy keys)) programs → IsKeyed keys state → IsKeyed keys (serial programs state).1
