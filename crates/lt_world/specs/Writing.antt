-- What a call that writes has done, where memory may be refused too.
use Rattle.std.specs.Prelude.{ℕ, ◌≤◌, List, Result, OnOk, OnErr, IsErrOf}
use Rattle.std.specs.declared.option.Option.{Option}
use Rattle.std.specs.Io.KnownBytes.{Appends}
use Rattle.lt_edges.specs.Causes.{Rose}
use Rattle.lt_report.specs.Puts.{AppendsFront}
use Rattle.lt_world.specs.declared.halt.Halt.{Halt}
use Rattle.lt_world.specs.declared.halt.Halt.TheVariants.{Failed}

-- The text was appended to what a sink holds, or a front of it, where memory was refused or a write failed. The sink's
-- count of faults rose where a write failed.
pub record Writes {T : Type 0} (result : Result T Halt) (old new : Option (List ℕ)) (before now : ℕ) (text : List ℕ) : Type 0 where
  pub ok : OnOk result (Appends old new text)
  pub err : OnErr result (AppendsFront old new text)
  pub later : before ≤ now
  pub failed : IsErrOf result Failed → Rose before now
