use Rattle.std.proofs.Common.{◌≡◌, ◌++◌, map, take}
use Rattle.std.specs.Arc.{arc_value}
use Rattle.lt_batch.proofs.spans.push_all.Given as goal

abbrev pub invariant-loop-prog : goal.invariant-loop-prog
invariant-loop-prog l = map arc_value l.all.items ≡ map arc_value l.fn.all.items ++ map arc_value (take l.prog-index l.batch)
