use Rattle.std.proofs.Common.{◌≡◌, map, take}
use Rattle.std.specs.Arc.{arc_value}
use Rattle.lt_query.proofs.planned.plan_all.Given as goal

abbrev pub invariant-loop-prog : goal.invariant-loop-prog
invariant-loop-prog l = map arc_value l.planned.items ≡ map arc_value (take l.prog-index l.progs)
