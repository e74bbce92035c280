use Rattle.std.proofs.Common.{take}
use Rattle.std.specs.Arc.{arc_value}
use Rattle.lt_program.proofs.InUse.{AreInUse}
use Rattle.lt_program.proofs.indexing.has_indexes.Given as goal

abbrev pub invariant-loop-route : goal.invariant-loop-route
invariant-loop-route l = AreInUse arc_value l.base (take l.route-index l.route-items)
