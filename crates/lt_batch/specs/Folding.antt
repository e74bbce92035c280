-- The run of a batch in order.
use Rattle.std.specs.Prelude.{◌≡◌, ℕ, ◌<◌, ◌≤◌, ◌⊎◌, Bool, true, ⊤, List, [], ◌++◌, length, Option, None, slice_index_or, Result, IfOk, IfSome}
use Rattle.std.specs.Global.{Vec}
use Rattle.std.specs.List.{AllByRecursion}
use Rattle.lt_face.specs.State.{Row, State, AgreeOn}
use Rattle.lt_model.specs.declared.normal.Stmt.{Stmt}
use Rattle.lt_model.specs.Fits.{FitMarks}
use Rattle.lt_model.specs.Marks.{Marks, AreMarks, laid}
use Rattle.lt_model.specs.Run.{run}
use Rattle.lt_base.specs.Tables.{Table, state_of, has_index}
use Rattle.lt_program.specs.declared.going.Ran.{Ran}
use Rattle.lt_program.specs.Alone.{kept_if}
use Rattle.lt_program.specs.Run.{AreReplied}
use Rattle.lt_program.specs.Tally.{TallyView, has_ended}
use Rattle.lt_restate.specs.Bases.{widths}
use Rattle.lt_restate.specs.Walked.{is_named}
use Rattle.lt_batch.specs.declared.ahead.Ahead.{Ahead}
use Rattle.lt_batch.specs.declared.ahead.Early.{Early}
use Rattle.lt_batch.specs.declared.ahead.Early.TheVariants.{Ran as RanEarly, Kept}
use Rattle.lt_batch.specs.declared.fold.Fold.{Fold}
use Rattle.lt_batch.specs.Batch.{program_at, serial_replies, serial_effects, serial_state}

-- each index of the one is one of the other
abbrev pub HasAll : List Table → List Table → Type 0
HasAll old new = (relation : ℕ) (columns : List ℕ) → has_index old relation columns ≡ true → has_index new relation columns ≡ true

-- the database has more indexes, and nothing else is new
pub record IsAlike (old new : Fold) : Type 0 where
  pub state : state_of new.db ≡ state_of old.db
  pub indexes : HasAll old.db new.db
  pub replies : new.replies ≡ old.replies
  pub effects : new.effects ≡ old.effects
  pub keeps : new.keeps ≡ old.keeps

-- The program ran on the database, which has what it wrote. Neither its reply nor its marks, where they are kept, are put down yet.
pub record HasRun (program : List Stmt) (asked : Bool) (old new : Fold) (ran : Ran) : Type 0 where
  pub reply : ran.reply ≡ (run program (state_of old.db)).0
  pub marks : ran.marks ≡ kept_if asked (run program (state_of old.db)).1
  pub fits : FitMarks (state_of old.db) (run program (state_of old.db)).1
  pub printed : AreReplied ran.reply
  pub state : state_of new.db ≡ laid (state_of old.db) (run program (state_of old.db)).1
  pub indexes : HasAll old.db new.db
  pub replies : new.replies ≡ old.replies
  pub effects : new.effects ≡ old.effects
  pub keeps : new.keeps ≡ old.keeps

-- The programs ran one after another. Their effects are put down where they are asked for, and something in their place elsewhere.
pub record HasGone (programs : List (List Stmt)) (old new : Fold) : Type 0 where
  pub replies : new.replies ≡ old.replies ++ serial_replies programs (state_of old.db)
  pub printed : AllByRecursion AreReplied (serial_replies programs (state_of old.db))
  pub wrote : List Marks
  pub effects : new.effects ≡ old.effects ++ wrote
  pub each : length wrote ≡ length programs
  pub kept : old.keeps ≡ true → wrote ≡ serial_effects programs (state_of old.db)
  pub fit : AllByRecursion (FitMarks (state_of old.db)) wrote
  pub state : state_of new.db ≡ serial_state programs (state_of old.db)
  pub keeps : new.keeps ≡ old.keeps

-- what the program answers and writes on the state
pub record IsRanOn (program : List Stmt) (state : State) (ran : Ran) : Type 0 where
  pub reply : ran.reply ≡ (run program state).0
  pub marks : ran.marks ≡ (run program state).1
  pub fits : FitMarks state ran.marks
  pub printed : AreReplied ran.reply

-- The whole run of the program on an earlier state: on each row that no mark is on that was written since the state is as that one.
pub record IsKeptSince (statements : List Stmt) (state : State) (since : Marks) (tally : TallyView) : Type 0 where
  pub program : tally.program ≡ statements
  pub ended : has_ended tally ≡ true
  pub relations : widths state ≡ widths (state_of tally.base)
  pub ascending : AreMarks since
  pub marked : (relation : ℕ) (row : Row) → AgreeOn (state_of tally.base) state relation row ⊎ (is_named since relation row ≡ true)

-- what was run before its turn is what the program does on the state as it is, or is its run on an earlier one
abbrev pub IsEarly : List Stmt → State → Marks → Early → Type 0
IsEarly program state since (RanEarly ran) = IsRanOn program state ran
IsEarly program state since (Kept tally) = IsKeptSince program state since tally

-- it is a whole run
abbrev pub IsWhole : Early → Type 0
IsWhole (RanEarly ran) = ⊥
IsWhole (Kept tally) = ⊤

-- the run of the program at its place
abbrev pub IsInPlace : List (List Stmt) → State → Ahead → Type 0
IsInPlace programs state one = IsEarly (program_at programs one.place) state [] one.early

-- each of the runs, where they were made
abbrev pub AreInPlace : {E : Type 0} → List (List Stmt) → State → Result (Vec Ahead) E → Type 0
AreInPlace programs state runs = IfOk runs (λ all. AllByRecursion (IsInPlace programs state) all.items)

-- of each of the lists
abbrev pub AreAllInPlace : {E : Type 0} → List (List Stmt) → State → List (Result (Vec Ahead) E) → Type 0
AreAllInPlace {E} programs state lists = (i : ℕ) (d : Result (Vec Ahead) E) → i < length lists → AreInPlace programs state (slice_index_or lists i d)

-- each run from a place on is its program's, on the state as it is or one before the marks
abbrev pub AreAhead : List (List Stmt) → State → Marks → ℕ → List (Option Ahead) → Type 0
AreAhead programs state since from ahead = (p : ℕ) → from ≤ p → IfSome (slice_index_or ahead p None) (λ (one : Ahead). IsEarly (program_at programs p) state since one.early)
