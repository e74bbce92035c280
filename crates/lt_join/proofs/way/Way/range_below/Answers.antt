use Rattle.std.specs.Prelude.{◌≡◌, ◌≤◌, ◌<◌, length}
use Rattle.std.proofs.Common.{ap, arith, refl, subst, ◌∙◌}
use Rattle.lt_query.specs.Plan.{keys_under}
use Rattle.lt_join.specs.Way.{IsWay, WayView}
use Rattle.lt_join.proofs.Bounding.{way_leaves}
use Rattle.lt_join.proofs.way.Way.range_below.Goals as goal

pub returns-then-is_ranged-clause-leaves : goal.returns-then-is_ranged-clause-leaves
returns-then-is_ranged-clause-leaves g c =
    let levels : c.as_slice-levels.result.now ≡ c.args.self.now.plan.levels = c.as_slice-levels.ensures ∙ ap (λ (w : WayView). w.plan.levels) c.self.view_is in
    let tests : c.as_slice-tests.result.now ≡ c.args.self.now.body.tests = c.as_slice-tests.ensures ∙ ap (λ (w : WayView). w.body.tests) c.self.view_is in
    way_leaves c.args.self.now c.as_slice-levels.result.now c.as_slice-tests.result.now c.args.keys.now c.range_below.result (subst (λ (w : WayView). IsWay w) c.self.view_is c.self.invariant.0) levels tests c.requires.below c.range_below.ensures.leaves

pub returns-clause-leaves : goal.returns-clause-leaves
returns-clause-leaves g c =
    way_leaves c.args.self.now c.args.self.now.plan.levels c.args.self.now.body.tests c.args.keys.now c.all.result (subst (λ (w : WayView). IsWay w) c.self.view_is c.self.invariant.0) refl refl c.requires.below
    (λ a agree hold low.
    let from : c.all.result.lo ≤ keys_under a c.args.self.now.plan.levels (length c.args.keys.now) = omega (arith, c.all.ensures.lo) in
    let to : keys_under a c.args.self.now.plan.levels (length c.args.keys.now) < c.all.result.hi = rw c.all.ensures.hi low in
    (from, to))
