use Rattle.std.proofs.Common.{◌≡◌, drop}
use Rattle.lt_batch.specs.Bearing.{may_be_of}
use Rattle.lt_batch.proofs.bearing.may_be_of.Given as goal

abbrev pub invariant-loop-i : goal.invariant-loop-i
invariant-loop-i l = may_be_of l.terms l.row ≡ may_be_of (drop l.i l.terms) (drop l.i l.row)
