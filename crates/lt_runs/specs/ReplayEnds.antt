-- What each way in which a replay ends shows of the source and the sink.
use Rattle.std.specs.Prelude.{◌≡◌, ◌<◌, ◌≤◌, ◌+◌, ℕ, Bool, List, [], ◌∷◌, ◌++◌, length, fold, Some, None, ⊤}
use Rattle.std.specs.declared.option.Option.{Option}
use Rattle.std.specs.Io.KnownBytes.{Appends, Consumes}
use Rattle.lt_blocks.specs.declared.block.Block.{Block}
use Rattle.lt_blocks.specs.Blocks.{IsBadLine, IsTrace}
use Rattle.lt_command.specs.declared.words.Command.{Command}
use Rattle.lt_command.specs.declared.words.Command.TheVariants.{Bench, Replay, Run}
use Rattle.lt_edges.specs.Causes.{Rose}
use Rattle.lt_model.specs.declared.syntax.Item.{Item}
use Rattle.lt_model.specs.declared.syntax.Item.TheVariants.{Batch}
use Rattle.lt_model.specs.declared.syntax.Program.{Program}
use Rattle.lt_model.specs.Script.{Close, End, Fault, Script}
use Rattle.lt_model.specs.Report.{opening, report, step}
use Rattle.lt_report.specs.Puts.{AppendsFront}
use Rattle.lt_report.specs.Traces.{bad_trace_text}
use Rattle.lt_runs.specs.declared.status.Status.{Status}
use Rattle.lt_runs.specs.declared.status.Status.TheVariants.{Done, NotTaken, Faulty, ReadFault, WriteFault, NoMemory, TooLong, BadTrace}
use Rattle.lt_runs.specs.declared.replay.Verdict.{Verdict}
use Rattle.lt_runs.specs.declared.replay.Verdict.TheVariants as verdicts
use Rattle.lt_runs.specs.declared.stop.Stop.{Stop}
use Rattle.lt_runs.specs.declared.stop.Stop.TheVariants as stops
use Rattle.lt_runs.specs.Input.{limit}
use Rattle.lt_runs.specs.Ends.{IsInput, IsTooLong}
use Rattle.lt_world.specs.Replays.{AreRight, IsLeft, IsRefusedAt}

-- the words ask for a replay, with marks or without, of which this holds
abbrev pub IfReplay : Option Command → (Bool → Type 0) → Type 0
IfReplay (Some (Run workers pipeline marks trace)) P = ⊤
IfReplay (Some (Bench seed items programs workers readers)) P = ⊤
IfReplay (Some (Replay marks)) P = P marks
IfReplay None P = ⊤

-- the bytes are a trace and a script with these items and this end, and the trace's blocks are those of its batches
pub record IsRightTrace (marks : Bool) (bytes : List ℕ) (items : List Item) (close : Close) : Type 0 where
  pub blocks : List Block
  pub script : List ℕ
  pub trace : IsTrace bytes blocks script
  pub script_is : Script script items close
  pub right : AreRight marks items blocks

-- The line that says where the trace isn't right, and what stands before it.
pub data Refuses (marks : Bool) (bytes : List ℕ) : List ℕ → Type 0 where
  AtLine : (line : ℕ) → IsBadLine bytes line → Refuses marks bytes (bad_trace_text 0 line)
  AtBatch : (blocks : List Block) (script : List ℕ) → IsTrace bytes blocks script → (items more : List Item) (programs : List Program) (close : Close) → Script script (items ++ Batch programs ∷ more) close
      → (place : ℕ) → IsRefusedAt marks items programs blocks place → Refuses marks bytes (report marks items End ++ bad_trace_text (length (fold (step marks) opening items).versions + 1) place)
  AtEnd : (blocks : List Block) (script : List ℕ) → IsTrace bytes blocks script → (items : List Item) (close : Close) → Script script items close → IsLeft marks items blocks
      → Refuses marks bytes (report marks items End ++ bad_trace_text (length (fold (step marks) opening items).versions + 1) 0)

-- the input is a trace and a script without a fault, and the report of that script was written
pub record IsReplayed (marks : Bool) (left_old left_new holds_old holds_new : Option (List ℕ)) : Type 0 where
  pub bytes : List ℕ
  pub input : IsInput left_old left_new bytes
  pub items : List Item
  pub trace : IsRightTrace marks bytes items End
  pub written : Appends holds_old holds_new (report marks items End)

-- the input is a trace and a script with a fault, and the report of that script was written, whose last line is the fault
pub record IsFaultReplayed (marks : Bool) (left_old left_new holds_old holds_new : Option (List ℕ)) : Type 0 where
  pub bytes : List ℕ
  pub input : IsInput left_old left_new bytes
  pub items : List Item
  pub line : ℕ
  pub code : ℕ
  pub trace : IsRightTrace marks bytes items (Fault line code)
  pub written : Appends holds_old holds_new (report marks items (Fault line code))

-- the trace isn't right, and what stands before that was written, with the line that says where
pub record IsRefused (marks : Bool) (left_old left_new holds_old holds_new : Option (List ℕ)) : Type 0 where
  pub bytes : List ℕ
  pub input : IsInput left_old left_new bytes
  pub text : List ℕ
  pub refuses : Refuses marks bytes text
  pub written : Appends holds_old holds_new text

-- what is written of these bytes: of items whose batches have right blocks, or all of it
pub data Leads (marks : Bool) (bytes : List ℕ) : List ℕ → Type 0 where
  Nothing : Leads marks bytes []
  Items : (blocks : List Block) (script : List ℕ) → IsTrace bytes blocks script → (items more : List Item) (close : Close) → Script script (items ++ more) close
      → (front rest : List Block) → blocks ≡ front ++ rest → AreRight marks items front → Leads marks bytes (report marks items End)
  Whole : (items : List Item) (close : Close) → IsRightTrace marks bytes items close → Leads marks bytes (report marks items close)
  Refused : (text : List ℕ) → Refuses marks bytes text → Leads marks bytes text

-- these bytes were taken from the source, within the limit, and a front of what is written of them was
pub record IsReplayPart (marks : Bool) (left_old left_new holds_old holds_new : Option (List ℕ)) : Type 0 where
  pub bytes : List ℕ
  pub taken : Consumes left_old left_new bytes
  pub within : length bytes ≤ limit
  pub text : List ℕ
  pub leads : Leads marks bytes text
  pub written : AppendsFront holds_old holds_new text

-- more bytes than the limit were taken
pub record IsLongReplayPart (marks : Bool) (left_old left_new holds_old holds_new : Option (List ℕ)) : Type 0 where
  pub bytes : List ℕ
  pub taken : Consumes left_old left_new bytes
  pub beyond : limit < length bytes
  pub text : List ℕ
  pub leads : Leads marks bytes text
  pub written : AppendsFront holds_old holds_new text

-- how a replay ends
abbrev pub ReplayEndsAs : Bool → Status → Option (List ℕ) → Option (List ℕ) → ℕ → ℕ → Option (List ℕ) → Option (List ℕ) → ℕ → ℕ → Type 0
ReplayEndsAs marks Done l m r s h i w x = IsReplayed marks l m h i
ReplayEndsAs marks NotTaken l m r s h i w x = ⊥
ReplayEndsAs marks Faulty l m r s h i w x = IsFaultReplayed marks l m h i
ReplayEndsAs marks ReadFault l m r s h i w x = Rose r s × IsReplayPart marks l m h i
ReplayEndsAs marks WriteFault l m r s h i w x = Rose w x × IsReplayPart marks l m h i
ReplayEndsAs marks NoMemory l m r s h i w x = IsReplayPart marks l m h i
ReplayEndsAs marks TooLong l m r s h i w x = IsTooLong l m × IsLongReplayPart marks l m h i
ReplayEndsAs marks BadTrace l m r s h i w x = IsRefused marks l m h i

-- how a replay ends that came to this verdict
abbrev pub IsReplayWritten : Bool → Verdict → Option (List ℕ) → Option (List ℕ) → Option (List ℕ) → Option (List ℕ) → Type 0
IsReplayWritten marks verdicts.Good l m h i = IsReplayed marks l m h i
IsReplayWritten marks verdicts.Faulty l m h i = IsFaultReplayed marks l m h i
IsReplayWritten marks verdicts.BadTrace l m h i = IsRefused marks l m h i

-- how a replay stops that comes to none
abbrev pub ReplayStopsAs : Bool → Stop → Option (List ℕ) → Option (List ℕ) → ℕ → ℕ → Option (List ℕ) → Option (List ℕ) → ℕ → ℕ → Type 0
ReplayStopsAs marks stops.NoMemory l m r s h i w x = IsReplayPart marks l m h i
ReplayStopsAs marks stops.ReadFailed l m r s h i w x = Rose r s × IsReplayPart marks l m h i
ReplayStopsAs marks stops.WriteFailed l m r s h i w x = Rose w x × IsReplayPart marks l m h i
ReplayStopsAs marks stops.TooLong l m r s h i w x = IsLongReplayPart marks l m h i
