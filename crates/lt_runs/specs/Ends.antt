-- What each way to end shows of the source and the sink.
use Rattle.std.specs.Prelude.{ℕ, Bool, true, false, ◌<◌, ◌≤◌, List, length, Some, None, ⊤}
use Rattle.std.specs.declared.option.Option.{Option}
use Rattle.std.specs.Io.KnownBytes.{Appends, Consumes, IsAtEnd, Keeps}
use Rattle.lt_blocks.specs.declared.block.Block.{Block}
use Rattle.lt_command.specs.declared.words.Command.{Command}
use Rattle.lt_command.specs.declared.words.Command.TheVariants.{Bench, Replay, Run}
use Rattle.lt_edges.specs.Causes.{Rose}
use Rattle.lt_gen.specs.Summaries.{summary_of, summary_text}
use Rattle.lt_model.specs.declared.syntax.Item.{Item}
use Rattle.lt_model.specs.Script.{End, Fault, Script}
use Rattle.lt_model.specs.Report.{report}
use Rattle.lt_report.specs.Puts.{AppendsFront}
use Rattle.lt_runs.specs.declared.status.Status.{Status}
use Rattle.lt_runs.specs.declared.status.Status.TheVariants.{Done, NotTaken, Faulty, ReadFault, WriteFault, NoMemory, TooLong, BadTrace}
use Rattle.lt_runs.specs.declared.stop.Stop.{Stop}
use Rattle.lt_runs.specs.declared.stop.Stop.TheVariants as stops
use Rattle.lt_runs.specs.Input.{limit}
use Rattle.lt_runs.specs.Reports.{IsFrontOf, IsReportOf}

-- the words ask for a run without traces, with marks or without, of which this holds
abbrev pub IfRun : Option Command → (Bool → Type 0) → Type 0
IfRun (Some (Run workers pipeline marks false)) P = P marks
IfRun (Some (Run workers pipeline marks true)) P = ⊤
IfRun (Some (Replay marks)) P = ⊤
IfRun (Some (Bench seed items programs workers readers)) P = ⊤
IfRun None P = ⊤

-- the words ask for a bench, with this seed and so many items, programs and readers, of which this holds
abbrev pub IfBench : Option Command → (ℕ → ℕ → ℕ → ℕ → Type 0) → Type 0
IfBench (Some (Run workers pipeline marks trace)) P = ⊤
IfBench (Some (Replay marks)) P = ⊤
IfBench (Some (Bench seed items programs workers readers)) P = P seed items programs readers
IfBench None P = ⊤

-- these are all bytes that the source had left, and they are within the limit
pub record IsInput (left_old left_new : Option (List ℕ)) (bytes : List ℕ) : Type 0 where
  pub consumed : Consumes left_old left_new bytes
  pub end : IsAtEnd left_new
  pub within : length bytes ≤ limit

-- the input is a script without a fault, and its report was written
pub record IsReported (marks : Bool) (left_old left_new holds_old holds_new : Option (List ℕ)) : Type 0 where
  pub bytes : List ℕ
  pub input : IsInput left_old left_new bytes
  pub items : List Item
  pub script : Script bytes items End
  pub written : Appends holds_old holds_new (report marks items End)

-- the input is a script with a fault, and its report was written, whose last line is the fault
pub record IsFaultReported (marks : Bool) (left_old left_new holds_old holds_new : Option (List ℕ)) : Type 0 where
  pub bytes : List ℕ
  pub input : IsInput left_old left_new bytes
  pub items : List Item
  pub line : ℕ
  pub code : ℕ
  pub script : Script bytes items (Fault line code)
  pub written : Appends holds_old holds_new (report marks items (Fault line code))

-- these bytes were taken from the source, within the limit, and a front of their report was written
pub record IsPart (marks : Bool) (left_old left_new holds_old holds_new : Option (List ℕ)) : Type 0 where
  pub bytes : List ℕ
  pub taken : Consumes left_old left_new bytes
  pub within : length bytes ≤ limit
  pub front : IsFrontOf marks bytes holds_old holds_new

-- more bytes than the limit were taken, and a front of their report was written
pub record IsLongPart (marks : Bool) (left_old left_new holds_old holds_new : Option (List ℕ)) : Type 0 where
  pub bytes : List ℕ
  pub taken : Consumes left_old left_new bytes
  pub beyond : limit < length bytes
  pub front : IsFrontOf marks bytes holds_old holds_new

-- more than the limit was read
abbrev pub IsTooLong : Option (List ℕ) → Option (List ℕ) → Type 0
IsTooLong left_old left_new = (taken : List ℕ) × Consumes left_old left_new taken × (limit < length taken)

-- the input was read to its end and its report was written, it is told whether it has a fault, and these blocks were kept
abbrev pub IsWritten : Bool → Bool → Bool → List Block → Option (List ℕ) → Option (List ℕ) → Option (List ℕ) → Option (List ℕ) → Type 0
IsWritten trace marks faulty blocks l m h i = (bytes : List ℕ) × IsInput l m bytes × IsReportOf trace blocks marks bytes faulty h i

-- how a script stops that isn't run to its end
abbrev pub StopsAs : Bool → Stop → Option (List ℕ) → Option (List ℕ) → ℕ → ℕ → Option (List ℕ) → Option (List ℕ) → ℕ → ℕ → Type 0
StopsAs marks stops.NoMemory l m r s h i w x = IsPart marks l m h i
StopsAs marks stops.ReadFailed l m r s h i w x = Rose r s × IsPart marks l m h i
StopsAs marks stops.WriteFailed l m r s h i w x = Rose w x × IsPart marks l m h i
StopsAs marks stops.TooLong l m r s h i w x = IsLongPart marks l m h i

-- how a run of a script ends
abbrev pub EndsAs : Bool → Status → Option (List ℕ) → Option (List ℕ) → ℕ → ℕ → Option (List ℕ) → Option (List ℕ) → ℕ → ℕ → Type 0
EndsAs marks Done l m r s h i w x = IsReported marks l m h i
EndsAs marks NotTaken l m r s h i w x = ⊥
EndsAs marks Faulty l m r s h i w x = IsFaultReported marks l m h i
EndsAs marks ReadFault l m r s h i w x = Rose r s × IsPart marks l m h i
EndsAs marks WriteFault l m r s h i w x = Rose w x × IsPart marks l m h i
EndsAs marks NoMemory l m r s h i w x = IsPart marks l m h i
EndsAs marks TooLong l m r s h i w x = IsTooLong l m × IsLongPart marks l m h i
EndsAs marks BadTrace l m r s h i w x = ⊥

-- the lines that tell what comes of the generated script
abbrev pub bench_text : ℕ → ℕ → ℕ → ℕ → List ℕ
bench_text seed items programs readers = summary_text (summary_of seed items programs readers)

-- the words ask for a replay
abbrev pub IsReplayAsked : Option Command → Type 0
IsReplayAsked (Some (Run workers pipeline marks trace)) = ⊥
IsReplayAsked (Some (Bench seed items programs workers readers)) = ⊥
IsReplayAsked (Some (Replay marks)) = ⊤
IsReplayAsked None = ⊥

-- how a bench ends that has this text to write
abbrev pub BenchEndsAs : List ℕ → Status → Option (List ℕ) → Option (List ℕ) → ℕ → ℕ → Type 0
BenchEndsAs text Done h i w x = Appends h i text
BenchEndsAs text NotTaken h i w x = ⊥
BenchEndsAs text Faulty h i w x = ⊥
BenchEndsAs text ReadFault h i w x = ⊥
BenchEndsAs text WriteFault h i w x = Rose w x × AppendsFront h i text
BenchEndsAs text NoMemory h i w x = Keeps h i
BenchEndsAs text TooLong h i w x = ⊥
BenchEndsAs text BadTrace h i w x = ⊥
