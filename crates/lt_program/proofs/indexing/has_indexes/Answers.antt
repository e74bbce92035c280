use Rattle.std.proofs.Common.{◌∙◌, ap, subst}
use Rattle.std.specs.Arc.{arc_value}
use Rattle.std.proofs.lemmas.List.{take_all}
use Rattle.lt_query.specs.declared.plans.Route.{Route}
use Rattle.lt_program.proofs.InUse.{HasGuides, AreInUse, route_more, all_in_use}
use Rattle.lt_program.proofs.indexing.has_indexes.Goals as goal

pub loop-route-preserved : goal.loop-route-preserved
loop-route-preserved c =
    route_more arc_value c.args.base.now c.routes-route-items.result.now c.loop-route.route-index c.route-item.result c.loop-route-test.true c.route-item.is
    (subst (HasGuides c.args.base.now) (c.as_slice.ensures ∙ ap (λ (r : Route). r.guides) c.deref-route.ensures) (c.are_in_use.ensures c.if-not-are_in_use.false)) c.loop-route.invariant

pub returns : goal.returns
returns c = λ is. all_in_use c.args.base.now arc_value c.args.prog.now c.routes-route-items.result.now c.routes-route-items.ensures c.requires (subst (AreInUse arc_value c.args.base.now) (take_all c.loop-route.route-index c.routes-route-items.result.now c.loop-route-test.false) c.loop-route.invariant)
