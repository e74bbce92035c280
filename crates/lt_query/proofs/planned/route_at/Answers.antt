use Rattle.std.proofs.Common.{◌∙◌, sym, ap}
use Rattle.std.specs.Arc.{arc_value}
use Rattle.lt_query.specs.Planned.{route_of, routes_of}
use Rattle.lt_query.proofs.ByShape.{route_there, one_route}
use Rattle.lt_query.proofs.planned.route_at.Goals as goal

pub returns-then-same_shape : goal.returns-then-same_shape
returns-then-same_shape c =
    route_there arc_value c.statements-stmts.result.now c.routes-all.result.now c.args.spot.stmt c.index-stmts-place.result c.index-all-place.result (c.routes-all.ensures ∙ ap routes_of (sym c.statements-stmts.ensures))
    c.if-place-stmts.false c.if-place-all.false c.index-stmts-place.is c.index-all-place.is
    ∙ (ap route_of (sym c.body_of.ensures) ∙ one_route c.body_of.result.now c.args.body.now (c.same_shape.ensures.shapes.0 c.if-same_shape.true))
