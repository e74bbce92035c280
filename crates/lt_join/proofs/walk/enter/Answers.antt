use Rattle.std.proofs.Common.{◌≡◌, ◌∙◌, length, ap, subst}
use Rattle.lt_join.specs.Walked.{HitsAbove}
use Rattle.lt_join.specs.Way.{WayView, IsWay}
use Rattle.lt_join.proofs.Known.{determined_at, level_there}
use Rattle.lt_join.proofs.Steps.{IsReached-child}
use Rattle.lt_join.proofs.walk.enter.Goals as goal

pub give_key-requires-clause-determined : goal.give_key-requires-clause-determined
give_key-requires-clause-determined g c =
    let way = c.args.way.now in
    let is_way : IsWay way = subst IsWay c.way.view_is c.way.invariant.0 in
    let levels : c.as_slice.result.now ≡ way.plan.levels = c.as_slice.ensures ∙ ap (λ (w : WayView). w.plan.levels) c.way.view_is in
    λ level here. determined_at way.body way.plan is_way.of_body c.as_slice.result.now levels (length c.args.keys.now) level here

pub returns-clause-reached : goal.returns-clause-reached
returns-clause-reached g c =
    let way = c.args.way.now in
    let is_way : IsWay way = subst IsWay c.way.view_is c.way.invariant.0 in
    let level = level_there way.plan.levels (length c.args.keys.now) c.requires.deeper in
    IsReached-child way.body way.plan c.args.walk.now.found.sense c.add_hits.new.sense c.args.keys.now c.args.key level.0 is_way.of_body c.requires.reached level.1 c.requires.deeper c.requires.cell (c.requires.fits level.0 level.1)
    (subst (HitsAbove c.add_hits.new.sense way.plan.guides) c.push.ensures c.in_ok-add_hits.ensures.hits)
