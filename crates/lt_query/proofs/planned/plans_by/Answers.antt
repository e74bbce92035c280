use Rattle.std.proofs.Common.{sym, ap, arith, ◌∙◌}
use Rattle.std.specs.Arc.{arc_value}
use Rattle.lt_query.specs.Planned.{route_of}
use Rattle.lt_query.specs.Stated.{stated_plan}
use Rattle.lt_query.proofs.ByShape.{route_there, as_many}
use Rattle.lt_query.proofs.KeptPlans.{plans_pushed}
use Rattle.lt_query.proofs.planned.plans_by.Goals as goal

pub plan_by-requires-clause-route : goal.plan_by-requires-clause-route
plan_by-requires-clause-route c =
    c.deref.ensures
    ∙ route_there arc_value c.args.stmts.now c.args.routes.now c.loop-i.i c.index-stmts-i.result c.index-routes-i.result c.requires.routes (omega (arith, c.loop-i-test.true))
    (omega (arith, c.loop-i-test.true, as_many arc_value c.args.stmts.now c.args.routes.now c.requires.routes)) c.index-stmts-i.is c.index-routes-i.is
    ∙ ap route_of (sym c.body_of.ensures)

pub loop-i-preserved : goal.loop-i-preserved
loop-i-preserved c =
    c.in_ok-push.ensures.ok
    ∙ plans_pushed c.args.stmts.now c.loop-i.i c.index-stmts-i.result c.loop-i.plans c.in_ok-plan.plan (omega (arith, c.loop-i-test.true)) c.index-stmts-i.is c.loop-i.invariant (c.in_ok-plan.ensures.value ∙ ap stated_plan c.body_of.ensures)
