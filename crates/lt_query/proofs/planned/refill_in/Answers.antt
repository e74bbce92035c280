use Rattle.std.specs.Arc.{arc_value}
use Rattle.lt_query.specs.Needs.{body_of}
use Rattle.lt_query.proofs.KeptPlans.{guides_at, refilled_plans}
use Rattle.lt_query.proofs.Refilled.{refilled_routes, refilled_widths}
use Rattle.lt_query.proofs.planned.refill_in.Goals as goal

pub returns-then-refill_one-clause-routes : goal.returns-then-refill_one-clause-routes
returns-then-refill_one-clause-routes c =
    refilled_routes arc_value c.args.routes.now (arc_value c.args.prog.now) c.in-Some.stmts.now c.refill_one.new.stmts c.args.place c.args.of_form.now c.args.cells.now c.in-Some.ensures.value
    (c.refill_one.ensures.filled c.if-refill_one.true) c.requires.routes c.requires.route

pub returns-then-refill_one-clause-plans : goal.returns-then-refill_one-clause-plans
returns-then-refill_one-clause-plans c =
    refilled_plans (arc_value c.args.prog.now) c.in-Some.stmts.now c.refill_one.new.stmts c.args.plans.now c.refill_plan_at.new.plans c.args.place c.args.of_form.now c.args.of_plan.now c.args.cells.now c.in-Some.ensures.value
    (c.refill_one.ensures.filled c.if-refill_one.true) c.requires.plans c.requires.plan (c.refill_plan_at.ensures.filled c.if-not-refill_plan_at.false)

pub returns-then-refill_one-clause-widths : goal.returns-then-refill_one-clause-widths
returns-then-refill_one-clause-widths c =
    refilled_widths (arc_value c.args.prog.now) c.in-Some.stmts.now c.refill_one.new.stmts c.args.place c.args.of_form.now c.args.cells.now c.in-Some.ensures.value
    (c.refill_one.ensures.filled c.if-refill_one.true) c.requires.wide c.requires.widths

pub refill_plan_at-requires : goal.refill_plan_at-requires
refill_plan_at-requires c = guides_at (arc_value c.args.prog.now) c.args.plans.now c.args.place (body_of c.args.of_form.now) c.args.of_plan.now c.requires.plans c.requires.plan c.requires.route
