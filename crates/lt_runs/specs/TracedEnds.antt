-- What each way to end shows of the source and the sink, where the journals of the batches are written behind the report.
use Rattle.std.specs.Prelude.{◌⊎◌, ◌≤◌, ◌++◌, ℕ, Bool, true, false, List, length, Some, None, ⊤}
use Rattle.std.specs.declared.option.Option.{Option}
use Rattle.std.specs.Io.KnownBytes.{Appends, Consumes}
use Rattle.lt_blocks.specs.declared.block.Block.{Block}
use Rattle.lt_blocks.specs.Blocks.{blocks_text}
use Rattle.lt_command.specs.declared.words.Command.{Command}
use Rattle.lt_command.specs.declared.words.Command.TheVariants.{Bench, Replay, Run}
use Rattle.lt_edges.specs.Causes.{Rose}
use Rattle.lt_model.specs.declared.syntax.Item.{Item}
use Rattle.lt_model.specs.Script.{Close, End, Fault, Script}
use Rattle.lt_model.specs.Report.{report}
use Rattle.lt_report.specs.Puts.{AppendsFront}
use Rattle.lt_runs.specs.declared.status.Status.{Status}
use Rattle.lt_runs.specs.declared.status.Status.TheVariants.{Done, NotTaken, Faulty, ReadFault, WriteFault, NoMemory, TooLong, BadTrace}
use Rattle.lt_runs.specs.Input.{limit}
use Rattle.lt_runs.specs.Reports.{IsFrontOf}
use Rattle.lt_runs.specs.Ends.{EndsAs, IsInput, IsLongPart, IsTooLong}
use Rattle.lt_world.specs.Traces.{AreBlocks}

-- the words ask for a run with traces, with marks or without, of which this holds
abbrev pub IfTraced : Option Command → (Bool → Type 0) → Type 0
IfTraced (Some (Run workers pipeline marks true)) P = P marks
IfTraced (Some (Run workers pipeline marks false)) P = ⊤
IfTraced (Some (Bench seed items programs workers readers)) P = ⊤
IfTraced (Some (Replay marks)) P = ⊤
IfTraced None P = ⊤

-- the report of a script, and behind it these blocks
abbrev pub traced_report : Bool → List Item → Close → List Block → List ℕ
traced_report marks items close blocks = report marks items close ++ blocks_text blocks

-- The input is a script without a fault. Its report was written, and behind it a block for each of its batches, whose entries
-- settle the batch's circuit.
pub record IsTraced (marks : Bool) (left_old left_new holds_old holds_new : Option (List ℕ)) : Type 0 where
  pub bytes : List ℕ
  pub input : IsInput left_old left_new bytes
  pub items : List Item
  pub script : Script bytes items End
  pub blocks : List Block
  pub are_blocks : AreBlocks marks items blocks
  pub written : Appends holds_old holds_new (traced_report marks items End blocks)

-- the input is a script with a fault, whose report was written, the fault its last line, and behind it the blocks
pub record IsFaultTraced (marks : Bool) (left_old left_new holds_old holds_new : Option (List ℕ)) : Type 0 where
  pub bytes : List ℕ
  pub input : IsInput left_old left_new bytes
  pub items : List Item
  pub line : ℕ
  pub code : ℕ
  pub script : Script bytes items (Fault line code)
  pub blocks : List Block
  pub are_blocks : AreBlocks marks items blocks
  pub written : Appends holds_old holds_new (traced_report marks items (Fault line code) blocks)

-- the report of the bytes was written, and a front of the blocks of its batches
pub record IsFrontOfBlocks (marks : Bool) (bytes : List ℕ) (old new : Option (List ℕ)) : Type 0 where
  pub items : List Item
  pub close : Close
  pub script : Script bytes items close
  pub blocks : List Block
  pub are_blocks : AreBlocks marks items blocks
  pub written : AppendsFront old new (traced_report marks items close blocks)

-- these bytes were taken from the source, within the limit, and a front of their report was written, or all of it and a front of the blocks
pub record IsTracedPart (marks : Bool) (left_old left_new holds_old holds_new : Option (List ℕ)) : Type 0 where
  pub bytes : List ℕ
  pub taken : Consumes left_old left_new bytes
  pub within : length bytes ≤ limit
  pub front : IsFrontOf marks bytes holds_old holds_new ⊎ IsFrontOfBlocks marks bytes holds_old holds_new

-- how a run with traces ends
abbrev pub TracedEndsAs : Bool → Status → Option (List ℕ) → Option (List ℕ) → ℕ → ℕ → Option (List ℕ) → Option (List ℕ) → ℕ → ℕ → Type 0
TracedEndsAs marks Done l m r s h i w x = IsTraced marks l m h i
TracedEndsAs marks NotTaken l m r s h i w x = ⊥
TracedEndsAs marks Faulty l m r s h i w x = IsFaultTraced marks l m h i
TracedEndsAs marks ReadFault l m r s h i w x = Rose r s × IsTracedPart marks l m h i
TracedEndsAs marks WriteFault l m r s h i w x = Rose w x × IsTracedPart marks l m h i
TracedEndsAs marks NoMemory l m r s h i w x = IsTracedPart marks l m h i
TracedEndsAs marks TooLong l m r s h i w x = IsTooLong l m × IsLongPart marks l m h i
TracedEndsAs marks BadTrace l m r s h i w x = ⊥

-- how a run ends, with traces or without
abbrev pub RunEndsAs : Bool → Bool → Status → Option (List ℕ) → Option (List ℕ) → ℕ → ℕ → Option (List ℕ) → Option (List ℕ) → ℕ → ℕ → Type 0
RunEndsAs true marks status l m r s h i w x = TracedEndsAs marks status l m r s h i w x
RunEndsAs false marks status l m r s h i w x = EndsAs marks status l m r s h i w x
