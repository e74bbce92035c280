-- The programs of a batch, one after another, and each on the snapshot with a correction laid on it.
use Rattle.std.specs.Prelude.{ℕ, List, [], map, take, slice_index_or}
use Rattle.lt_face.specs.State.{State}
use Rattle.lt_model.specs.declared.normal.Stmt.{Stmt}
use Rattle.lt_model.specs.declared.reply.Reply.{Reply}
use Rattle.lt_model.specs.Marks.{Marks, laid}
use Rattle.lt_model.specs.Run.{run}
use Rattle.lt_model.specs.Serial.{serial}

-- the replies of the programs one after another, the marks of each, and the state that they leave
abbrev pub serial_replies : List (List Stmt) → State → List Reply
serial_replies programs snapshot = map (λ done. done.0) (serial programs snapshot).0

abbrev pub serial_effects : List (List Stmt) → State → List Marks
serial_effects programs snapshot = map (λ done. done.1) (serial programs snapshot).0

abbrev pub serial_state : List (List Stmt) → State → State
serial_state programs snapshot = (serial programs snapshot).1

-- program i, and none past the last
abbrev pub program_at : List (List Stmt) → ℕ → List Stmt
program_at programs i = slice_index_or programs i []

-- the reply and the marks of program i on the snapshot with the correction laid on it
abbrev pub run_at : List (List Stmt) → State → ℕ → Marks → Reply × Marks
run_at programs snapshot i correction = run (program_at programs i) (laid snapshot correction)

abbrev pub does_at : List (List Stmt) → State → ℕ → Marks → Marks
does_at programs snapshot i correction = (run_at programs snapshot i correction).1

-- the first i programs one after another
abbrev pub first_of : List (List Stmt) → ℕ → State → List (Reply × Marks) × State
first_of programs i snapshot = serial (take i programs) snapshot
