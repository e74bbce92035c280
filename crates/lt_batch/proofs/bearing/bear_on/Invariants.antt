use Rattle.std.proofs.Common.{◌≡◌, take, false}
use Rattle.std.specs.List.{list_any}
use Rattle.lt_batch.specs.Bearing.{bears_on_some}
use Rattle.lt_batch.proofs.bearing.bear_on.Given as goal

abbrev pub invariant-loop-i : goal.invariant-loop-i
invariant-loop-i l = list_any (bears_on_some l.prog) (take l.i l.marks) ≡ false
