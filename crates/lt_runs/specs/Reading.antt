-- What readers are answered beside the batches.
use Rattle.std.specs.Prelude.{◌≡◌, ◌≤◌, ℕ, List, [], ◌∷◌, length, map, slice_get, Some}
use Rattle.std.specs.List.{AllByRecursion}
use Rattle.logbook.specs.Pages.{Book}
use Rattle.lt_face.specs.State.{State}
use Rattle.lt_model.specs.declared.normal.Stmt.{Stmt}
use Rattle.lt_model.specs.declared.reply.Reply.{Reply}
use Rattle.lt_model.specs.Fits.{Fits}
use Rattle.lt_model.specs.Run.{run}
use Rattle.lt_base.specs.Tables.{Table, state_of}
use Rattle.lt_readers.specs.declared.reader.Reader.{Reader}
use Rattle.lt_readers.specs.declared.version.Version.{Version}
use Rattle.lt_readers.specs.Boards.{reader_board, seen}
use Rattle.lt_readers.specs.Lists.{IsHistory}

-- the program fits the first of the versions
pub record IsReady (program : List Stmt) (log : List Version) : Type 0 where
  pub first : Version
  pub begins : slice_get log 0 ≡ Some first
  pub fits : Fits (state_of first.db) program

-- the reply is the program's on one of the versions, whose number is told
pub record IsAnswer (program : List Stmt) (log : List Version) (answer : ℕ × Reply) : Type 0 where
  pub place : ℕ
  pub version : Version
  pub there : slice_get log place ≡ Some version
  pub number : answer.0 ≡ version.number
  pub reply : answer.1 ≡ (run program (state_of version.db)).0

-- a reader of this board has asked so many times
pub record HasAsked (program : List Stmt) (board : Book) (reader : Reader) (answers : List (ℕ × Reply)) (count : ℕ) : Type 0 where
  pub ready : IsReady program (seen reader)
  pub board_is : reader_board reader ≡ board
  pub count_is : length answers ≡ count
  pub each : AllByRecursion (IsAnswer program (seen reader)) answers

-- what was posted are the versions from 1 on, and none has a number above this
pub record IsPosted (most : ℕ) (versions : List (List Table)) (log : List Version) : Type 0 where
  pub states : [] ∷ map (λ (v : Version). state_of v.db) log ≡ map state_of versions
  pub first : Version
  pub begins : slice_get log 0 ≡ Some first
  pub number : first.number ≡ 1
  pub most_is : first.most ≡ most
  pub history : IsHistory log

-- as many were posted as may be
abbrev pub IsAllPosted : List (List Table) → List Version → Type 0
IsAllPosted versions log = IsPosted (length log) versions log

-- the version of this number fits the program, if it is there
abbrev pub MayCompare : List Stmt → List (List Table) → ℕ → Type 0
MayCompare program versions number = (state : State) → slice_get (map state_of versions) number ≡ Some state → Fits state program

-- the version of the number is there and fits the program, and the reply is the program's on it
pub record IsRight (program : List Stmt) (versions : List (List Table)) (answer : ℕ × Reply) : Type 0 where
  pub state : State
  pub there : slice_get (map state_of versions) answer.0 ≡ Some state
  pub fits : Fits state program
  pub reply : answer.1 ≡ (run program state).0

-- as many were counted as there are exactly where each of them is so
pub record CountsAll {X : Type 0} (P : X → Type 0) (xs : List X) (count : ℕ) : Type 0 where
  pub within : count ≤ length xs
  pub all : AllByRecursion P xs → count ≡ length xs
  pub only : count ≡ length xs → AllByRecursion P xs
