-- Reports of scripts.
use Rattle.std.specs.Prelude.{◌≡◌, ℕ, Bool, true, false, List}
use Rattle.std.specs.declared.option.Option.{Option}
use Rattle.std.specs.Io.KnownBytes.{Appends}
use Rattle.lt_model.specs.declared.syntax.Item.{Item}
use Rattle.lt_model.specs.Script.{Close, End, Fault, Script}
use Rattle.lt_model.specs.Report.{report}
use Rattle.lt_report.specs.Puts.{AppendsFront}
use Rattle.lt_blocks.specs.declared.block.Block.{Block}
use Rattle.lt_world.specs.Traces.{AreKept}

-- whether a script ends with a fault
abbrev pub is_fault : Close → Bool
is_fault End = false
is_fault (Fault line code) = true

-- the report of the bytes as a script was written, it is told whether they have a fault, and these blocks of its batches were kept
pub record IsReportOf (trace : Bool) (blocks : List Block) (marks : Bool) (bytes : List ℕ) (faulty : Bool) (old new : Option (List ℕ)) : Type 0 where
  pub items : List Item
  pub close : Close
  pub script : Script bytes items close
  pub written : Appends old new (report marks items close)
  pub told : faulty ≡ is_fault close
  pub kept : AreKept trace marks items blocks

-- a front of the report of the bytes was written
pub record IsFrontOf (marks : Bool) (bytes : List ℕ) (old new : Option (List ℕ)) : Type 0 where
  pub items : List Item
  pub close : Close
  pub script : Script bytes items close
  pub written : AppendsFront old new (report marks items close)
