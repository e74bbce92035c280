-- What the parts of a replay have done.
use Rattle.std.specs.Prelude.{◌≡◌, ◌⊎◌, ◌<◌, ◌≤◌, ◌+◌, ℕ, Bool, false, List, [], ◌++◌, length, Some, None}
use Rattle.std.specs.List.{AllByRecursion}
use Rattle.std.specs.declared.option.Option.{Option}
use Rattle.std.specs.Io.KnownBytes.{Appends, Consumes, IsAtEnd}
use Rattle.lt_blocks.specs.declared.block.Block.{Block}
use Rattle.lt_blocks.specs.Blocks.{blocks_text, script_text, IsBlock}
use Rattle.lt_edges.specs.Causes.{Rose}
use Rattle.lt_model.specs.Script.{Fault}
use Rattle.lt_model.specs.Report.{close_text}
use Rattle.lt_report.specs.Puts.{AppendsFront}
use Rattle.lt_report.specs.Traces.{bad_trace_text}
use Rattle.lt_script.specs.declared.feed.Feed.{Feed}
use Rattle.lt_script.specs.Feed.{HasFed, IsMore}
use Rattle.lt_runs.specs.declared.input.InputError.{InputError}
use Rattle.lt_runs.specs.declared.input.InputError.TheVariants as errors
use Rattle.lt_runs.specs.declared.replay.Verdict.{Verdict}
use Rattle.lt_runs.specs.declared.replay.Verdict.TheVariants as verdicts
use Rattle.lt_runs.specs.declared.stop.Stop.{Stop}
use Rattle.lt_runs.specs.declared.stop.Stop.TheVariants as stops
use Rattle.lt_runs.specs.Input.{limit}

-- these blocks, and the line behind which the script begins
abbrev pub front_of : List Block → List ℕ
front_of blocks = blocks_text blocks ++ script_text

-- So many bytes were taken: these blocks, the line `script`, and what was fed.
pub record IsBegun (blocks : List Block) (count : ℕ) (feed : Feed) (left_old left_new : Option (List ℕ)) : Type 0 where
  pub script : List ℕ
  pub consumed : Consumes left_old left_new (front_of blocks ++ script)
  pub counted : count ≡ length (front_of blocks ++ script)
  pub within : count ≤ limit
  pub blocks_within : AllByRecursion IsBlock blocks
  pub fed : HasFed feed script []
  pub open_still : feed.ended ≡ false

-- ---- the rest of the source

-- some bytes more were taken, none behind the end, within the limit with those before, or beyond it
abbrev pub TakesInside : Bool → ℕ → Option (List ℕ) → Option (List ℕ) → Type 0
TakesInside ended count l m = (piece : List ℕ) × Consumes l m piece × IsMore ended piece × (count + length piece ≤ limit)

abbrev pub TakesOver : Bool → ℕ → Option (List ℕ) → Option (List ℕ) → Type 0
TakesOver ended count l m = (piece : List ℕ) × Consumes l m piece × IsMore ended piece × (limit < count + length piece)

-- the rest was taken, within the limit
pub record TakesOut (ended : Bool) (count : ℕ) (left_old left_new : Option (List ℕ)) : Type 0 where
  pub piece : List ℕ
  pub consumed : Consumes left_old left_new piece
  pub behind : IsMore ended piece
  pub within : count + length piece ≤ limit
  pub end : IsAtEnd left_new

-- why it wasn't
abbrev pub StopsInside : InputError → Bool → ℕ → Option (List ℕ) → Option (List ℕ) → ℕ → ℕ → Type 0
StopsInside errors.NoMemory ended count l m r s = TakesInside ended count l m
StopsInside errors.Failed ended count l m r s = Rose r s × TakesInside ended count l m
StopsInside errors.TooLong ended count l m r s = TakesOver ended count l m

-- why it wasn't, or the line that says where the trace isn't right wasn't written
abbrev pub StopsRefusing : Stop → Bool → ℕ → Option (List ℕ) → Option (List ℕ) → ℕ → ℕ → ℕ → ℕ → Type 0
StopsRefusing stops.NoMemory ended count l m r s w x = TakesInside ended count l m
StopsRefusing stops.ReadFailed ended count l m r s w x = Rose r s × TakesInside ended count l m
StopsRefusing stops.WriteFailed ended count l m r s w x = Rose w x × TakesInside ended count l m
StopsRefusing stops.TooLong ended count l m r s w x = TakesOver ended count l m

-- ---- behind the last item, after so many batches and with so many blocks: none is left, and the fault's line was written, where there is one; or the first that is left was told

abbrev pub Closes : Verdict → ℕ → ℕ → Option (ℕ × ℕ) → Option (List ℕ) → Option (List ℕ) → Type 0
Closes verdicts.Good batches blocks fault h i = (blocks ≤ batches) × (fault ≡ None) × Appends h i []
Closes verdicts.Faulty batches blocks fault h i = (blocks ≤ batches) × (told : ℕ × ℕ) × (fault ≡ Some told) × Appends h i (close_text (Fault told.0 told.1))
Closes verdicts.BadTrace batches blocks fault h i = (batches < blocks) × Appends h i (bad_trace_text (batches + 1) 0)

-- not all of it was written
abbrev pub ClosesPart : ℕ → ℕ → Option (ℕ × ℕ) → Option (List ℕ) → Option (List ℕ) → Type 0
ClosesPart batches blocks fault h i =
    ((batches < blocks) × AppendsFront h i (bad_trace_text (batches + 1) 0))
    ⊎ ((blocks ≤ batches) × (told : ℕ × ℕ) × (fault ≡ Some told) × AppendsFront h i (close_text (Fault told.0 told.1)))
