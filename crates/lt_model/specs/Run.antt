-- The run of a program on a state.
use Rattle.std.specs.Prelude.{ℕ, ◌+◌, true, false, List, [], ◌∷◌, ◌++◌}
use Rattle.lt_model.specs.declared.normal.Stmt.{Stmt}
use Rattle.lt_model.specs.declared.reply.Printed.{Printed}
use Rattle.lt_model.specs.declared.reply.Reply.{Reply}
use Rattle.lt_model.specs.declared.reply.Reply.TheVariants.{Done, Refused}
use Rattle.lt_face.specs.State.{State}
use Rattle.lt_model.specs.Marks.{Marks, and_then, laid}
use Rattle.lt_model.specs.Effect.{Effect, Writes, Requires, Prints, Clashes, effect}

-- how far a run has come: the marks and the prints so far
pub record Progress : Type 0 where
  pub marks : Marks
  pub prints : List Printed

-- statement j has this effect, and `rest` is the run of the statements after it
abbrev pub run_on : ℕ → Progress → Effect → (Progress → Reply × Marks) → Reply × Marks
run_on j p (Writes marks) rest = rest (record p { marks = and_then p.marks marks })
run_on j p (Requires true) rest = rest p
run_on j p (Requires false) rest = (Refused j, [])
run_on j p Clashes rest = (Refused j, [])
run_on j p (Prints kinds rows) rest = rest (record p { prints = p.prints ++ record { statement = j; kinds = kinds; rows = rows } ∷ [] })

-- the statements from number j on, each on the state with the marks so far laid on it
abbrev pub run_from : ℕ → List Stmt → State → Progress → Reply × Marks
run_from j [] state p = (Done p.prints, p.marks)
run_from j (s ∷ program) state p = run_on j p (effect s (laid state p.marks)) (run_from (j + 1) program state)

-- the reply of a program, and its marks
abbrev pub run : List Stmt → State → Reply × Marks
run program state = run_from 1 program state (record { marks = []; prints = [] })
