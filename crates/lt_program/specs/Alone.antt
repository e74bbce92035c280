-- The run of a program on a database that takes its marks as they come.
use Rattle.std.specs.Prelude.{◌≡◌, ℕ, ◌<◌, ◌≤◌, Bool, true, false, nat_lt, List, [], length, slice_get, Some, if◌then◌else◌}
use Rattle.lt_face.specs.State.{State}
use Rattle.lt_model.specs.declared.normal.Stmt.{Stmt}
use Rattle.lt_model.specs.declared.normal.Stmt.TheVariants.{Require, Print}
use Rattle.lt_model.specs.declared.reply.Reply.{Reply}
use Rattle.lt_model.specs.declared.reply.Reply.TheVariants.{Refused}
use Rattle.lt_model.specs.Fits.{Fits}
use Rattle.lt_model.specs.Marks.{Marks, and_then, laid}
use Rattle.lt_model.specs.State.{IsState}
use Rattle.lt_base.specs.Tables.{Table, state_of, has_index}
use Rattle.lt_query.specs.Runnable.{AreWide}
use Rattle.lt_program.specs.declared.going.Going.{Going}
use Rattle.lt_program.specs.declared.part.Found.{Found}
use Rattle.lt_program.specs.Kept.{first_rows, refused_by, written_by}
use Rattle.lt_program.specs.Run.{displacing_heads}
use Rattle.lt_program.specs.Tally.{HasIndexes, is_refused, run_of_first, with_print}
use Rattle.lt_program.specs.Undo.{IsBack, IsWritten}

-- marks, where they are kept
abbrev pub kept_if : Bool → Marks → Marks
kept_if keeps marks = if keeps then marks else []

-- marks with others after them, where they are kept
abbrev pub and_then_if : Bool → Marks → Marks → Marks
and_then_if keeps marks more = if keeps then and_then marks more else marks

-- the reply with what the statement of this number prints
abbrev pub with_prints : ℕ → Stmt → Found → Reply → Reply
with_prints number (Print terms kinds body) outcome reply = with_print reply (record { statement = number; kinds = kinds; rows = first_rows outcome })
with_prints number stmt outcome reply = reply

-- the statement is a requirement, or its rows come into a relation with value columns, where two of them may have one key
abbrev pub is_refusing : Stmt → Bool
is_refusing (Require some body) = true
is_refusing stmt = nat_lt 0 (length (displacing_heads stmt))

-- each statement that may refuse the program is among its first `refusing`
abbrev pub AreWithin : ℕ → List Stmt → Type 0
AreWithin refusing program = (j : ℕ) (stmt : Stmt) → slice_get program j ≡ Some stmt → is_refusing stmt ≡ true → j < refusing

-- What came of a statement of this number: it refused the program, and what was written is taken back, or it wrote and printed.
pub record IsAccepted (number : ℕ) (stmt : Stmt) (outcome : Found) (keeps logs : Bool) (old : Going) (before : List Table) (new : Going) (after : List Table) : Type 0 where
  pub reply : new.reply ≡ (if refused_by stmt outcome then Refused number else with_prints number stmt outcome old.reply)
  pub marks : new.marks ≡ (if refused_by stmt outcome then [] else and_then_if keeps old.marks (written_by stmt outcome))
  pub written : refused_by stmt outcome ≡ false → IsWritten (written_by stmt outcome) logs before after old.undo.items new.undo.items
  pub taken_back : refused_by stmt outcome ≡ true → (base : State) → IsBack base (state_of before) old.undo.items → state_of after ≡ base
  pub indexes : (relation : ℕ) (columns : List ℕ) → has_index after relation columns ≡ has_index before relation columns

-- The first n statements of the program were run, and the tables have what they wrote. Only the last of them can be a false requirement
-- or a clash. Before so many statements as may still refuse the program, it is known how to take back what was written.
pub record IsFirst (program : List Stmt) (base : List Table) (keeps : Bool) (refusing n : ℕ) (going : Going) (tables : List Table) : Type 0 where
  pub within : n ≤ length program
  pub reply : going.reply ≡ (run_of_first n program (state_of base)).0
  pub marks : going.marks ≡ kept_if keeps (run_of_first n program (state_of base)).1
  pub went_on : (j : ℕ) → j < n → is_refused (run_of_first j program (state_of base)).0 ≡ false
  pub state : state_of tables ≡ laid (state_of base) (run_of_first n program (state_of base)).1
  pub indexes : (relation : ℕ) (columns : List ℕ) → has_index tables relation columns ≡ has_index base relation columns
  pub back : is_refused going.reply ≡ false → n < refusing → IsBack (state_of base) (state_of tables) going.undo.items

-- so it is of a program that fits the base, which has the indexes that it needs
pub record IsUnderWay (program : List Stmt) (base : List Table) (keeps : Bool) (refusing n : ℕ) (going : Going) (tables : List Table) : Type 0 where
  pub fits : Fits (state_of base) program
  pub indexes : HasIndexes base program
  pub is_state : IsState (state_of base)
  pub wide : AreWide (state_of base)
  pub last : AreWithin refusing program
  pub first : IsFirst program base keeps refusing n going tables
