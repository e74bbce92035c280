use Rattle.std.proofs.Common.{◌≡◌, [], subst, sym}
use Rattle.lt_query.specs.LevelsOf.{levels_from}
use Rattle.lt_query.specs.Order.{places_of, terms_at}
use Rattle.lt_query.specs.Plan.{IsPlanOf}
use Rattle.lt_query.specs.Stated.{stated_plan, IsStatedPlan}
use Rattle.lt_query.specs.Runnable.{IsRunnable}
use Rattle.lt_query.proofs.ByShape.{route_within, planned_by}
use Rattle.lt_query.proofs.StatedPlan.{IsPlanOf-stated, IsStatedPlan-stated}
use Rattle.lt_query.proofs.Running.{IsRunnable-stated}
use Rattle.lt_query.proofs.planning.plan_by.Goals as goal

pub levels-requires : goal.levels-requires
levels-requires c = rw (c.as_slice-2.ensures, c.as_slice-3.ensures) (route_within c.args.body.now c.args.route.now c.requires.route)

pub returns-clause-value : goal.returns-clause-value
returns-clause-value c =
    let levels : c.in_ok-levels.levels ≡ levels_from c.args.body.now.tests [] (terms_at (places_of c.args.body.now.atoms) c.args.route.now.order) = cc (c.as_slice.ensures, c.as_slice-2.ensures, c.as_slice-3.ensures, c.in_ok-levels.ensures) in
    planned_by c.args.body.now c.args.route.now c.in_ok-levels.levels c.in_ok-guides.guides c.requires.route levels c.in_ok-guides.ensures

pub returns-clause-of_body : goal.returns-clause-of_body
returns-clause-of_body c =
    let levels : c.in_ok-levels.levels ≡ levels_from c.args.body.now.tests [] (terms_at (places_of c.args.body.now.atoms) c.args.route.now.order) = cc (c.as_slice.ensures, c.as_slice-2.ensures, c.as_slice-3.ensures, c.in_ok-levels.ensures) in
    let same : record { levels = c.in_ok-levels.levels; guides = c.in_ok-guides.guides } ≡ stated_plan c.args.body.now = planned_by c.args.body.now c.args.route.now c.in_ok-levels.levels c.in_ok-guides.guides c.requires.route levels c.in_ok-guides.ensures in
    subst (IsPlanOf c.args.body.now) (sym same) (IsPlanOf-stated c.args.body.now)

pub returns-clause-in_order : goal.returns-clause-in_order
returns-clause-in_order c =
    let levels : c.in_ok-levels.levels ≡ levels_from c.args.body.now.tests [] (terms_at (places_of c.args.body.now.atoms) c.args.route.now.order) = cc (c.as_slice.ensures, c.as_slice-2.ensures, c.as_slice-3.ensures, c.in_ok-levels.ensures) in
    let same : record { levels = c.in_ok-levels.levels; guides = c.in_ok-guides.guides } ≡ stated_plan c.args.body.now = planned_by c.args.body.now c.args.route.now c.in_ok-levels.levels c.in_ok-guides.guides c.requires.route levels c.in_ok-guides.ensures in
    subst (IsStatedPlan c.args.body.now) (sym same) (IsStatedPlan-stated c.args.body.now)

pub returns-clause-runnable : goal.returns-clause-runnable
returns-clause-runnable c =
    let levels : c.in_ok-levels.levels ≡ levels_from c.args.body.now.tests [] (terms_at (places_of c.args.body.now.atoms) c.args.route.now.order) = cc (c.as_slice.ensures, c.as_slice-2.ensures, c.as_slice-3.ensures, c.in_ok-levels.ensures) in
    let same : record { levels = c.in_ok-levels.levels; guides = c.in_ok-guides.guides } ≡ stated_plan c.args.body.now = planned_by c.args.body.now c.args.route.now c.in_ok-levels.levels c.in_ok-guides.guides c.requires.route levels c.in_ok-guides.ensures in
    λ state fits. subst (IsRunnable c.args.body.now) (sym same) (IsRunnable-stated state c.args.body.now c.requires.widths fits)
