use Rattle.std.proofs.Common.{◌≡◌, take}
use Rattle.lt_query.specs.Planned.{plans_of}
use Rattle.lt_query.proofs.planned.plans_by.Given as goal

abbrev pub invariant-loop-i : goal.invariant-loop-i
invariant-loop-i l = l.plans ≡ plans_of (take l.i l.stmts)
