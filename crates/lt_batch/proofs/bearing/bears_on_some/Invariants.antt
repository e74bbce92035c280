use Rattle.std.proofs.Common.{◌≡◌, take, false}
use Rattle.lt_batch.specs.Bearing.{bears_on_some}
use Rattle.lt_batch.proofs.bearing.bears_on_some.Given as goal

abbrev pub invariant-loop-stmt : goal.invariant-loop-stmt
invariant-loop-stmt l = bears_on_some (take l.stmt-index l.prog) l.mark ≡ false
