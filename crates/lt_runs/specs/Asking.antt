-- Readers before and after their queries.
use Rattle.std.specs.Prelude.{◌≡◌, ◌<◌, List, [], length, Result, IfOk}
use Rattle.std.specs.List.{AllByRecursion}
use Rattle.logbook.specs.Pages.{Book}
use Rattle.lt_face.specs.declared.memory.NoMemory.{NoMemory}
use Rattle.lt_model.specs.declared.normal.Stmt.{Stmt}
use Rattle.lt_readers.specs.declared.reader.Reader.{Reader}
use Rattle.lt_readers.specs.Boards.{reader_board, seen}
use Rattle.lt_runs.specs.declared.beside.asking.Asker.{Asker}
use Rattle.lt_runs.specs.Reading.{HasAsked, IsReady}

-- it hasn't asked yet, and the program fits what its reader has seen
pub record IsToAsk (program : List Stmt) (asker : Asker) : Type 0 where
  pub few : asker.number < 8
  pub ready : IsReady program (seen asker.reader)
  pub new : asker.answers.items ≡ []

-- it has asked 16 times on this board, or memory was refused
abbrev pub IsAsked : List Stmt → Book → Result Asker NoMemory → Type 0
IsAsked program board result = IfOk result (λ asker. HasAsked program board asker.reader asker.answers.items 16)

-- so it has, on its own board
abbrev pub HasAskedAs : List Stmt → Asker → Result Asker NoMemory → Type 0
HasAskedAs program asker result = IsAsked program (reader_board asker.reader) result

-- so they have, one after another
abbrev pub HaveAsked : List Stmt → List Asker → List (Result Asker NoMemory) → Type 0
HaveAsked program askers results = (board : Book) → AllByRecursion (λ (asker : Asker). reader_board asker.reader ≡ board) askers → AllByRecursion (IsAsked program board) results

-- each of the readers has asked, or memory was refused to it
pub record WereAsked (program : List Stmt) (readers : List Reader) (results : List (Result Asker NoMemory)) : Type 0 where
  pub count : length results ≡ length readers
  pub each : (board : Book) → AllByRecursion (λ (r : Reader). reader_board r ≡ board) readers → AllByRecursion (IsAsked program board) results
