use Rattle.std.proofs.Common.{◌≡◌, map, take}
use Rattle.std.specs.Arc.{arc_value}
use Rattle.lt_query.specs.Planned.{routes_of}
use Rattle.lt_query.proofs.planned.Shapes.with_routes.Given as goal

abbrev pub invariant-loop-stmt : goal.invariant-loop-stmt
invariant-loop-stmt l = map arc_value l.routes ≡ routes_of (take l.stmt-index l.stmt-items)
