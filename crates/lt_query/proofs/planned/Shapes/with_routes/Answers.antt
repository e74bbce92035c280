use Rattle.std.proofs.Common.{◌∙◌, map, ap}
use Rattle.std.specs.Arc.{arc_value}
use Rattle.lt_query.specs.Planned.{route_of}
use Rattle.lt_query.proofs.ByShape.{routes_pushed}
use Rattle.lt_query.proofs.planned.Shapes.with_routes.Goals as goal

pub loop-stmt-preserved : goal.loop-stmt-preserved
loop-stmt-preserved c =
    ap (map arc_value) c.in_ok-push.ensures.ok
    ∙ routes_pushed arc_value c.as_slice-stmt-items.result.now c.loop-stmt.stmt-index c.stmt-item.result c.loop-stmt.routes c.in_ok-found.found.0
    c.loop-stmt-test.true c.stmt-item.is c.loop-stmt.invariant (c.in_ok-found.ensures ∙ ap route_of c.body_of.ensures)
