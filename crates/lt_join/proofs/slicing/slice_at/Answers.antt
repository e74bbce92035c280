use Rattle.std.proofs.Common.{◌≡◌, [], length, sym, ap, ◌∙◌, subst, arith}
use Rattle.lt_model.specs.Answers.{Values, ascending}
use Rattle.lt_sense.specs.Kept.{Sense}
use Rattle.lt_query.specs.Plan.{term_at}
use Rattle.lt_join.specs.Known.{IsKnown}
use Rattle.lt_join.specs.Sliced.{IsSliceOf}
use Rattle.lt_join.specs.Way.{IsWay}
use Rattle.lt_join.proofs.Going.{reached_none, right_none}
use Rattle.lt_join.proofs.Known.{IsKnown-root}
use Rattle.lt_join.proofs.SliceLaws.{is_slice}
use Rattle.lt_join.proofs.slicing.slice_at.Goals as goal

pub explore_key-requires-clause-known : goal.explore_key-requires-clause-known
explore_key-requires-clause-known g c =
    subst (λ (vs : Values). IsKnown c.args.way.now.plan.levels [] vs) (sym c.new-walk.ensures.values) (IsKnown-root c.args.way.now.plan.levels)

pub explore_key-requires-clause-reached : goal.explore_key-requires-clause-reached
explore_key-requires-clause-reached g c =
    let way : IsWay c.args.way.now = subst IsWay c.way.view_is c.way.invariant.0 in
    reached_none c.args.way.now c.new-walk.result.found.sense way

pub explore_key-requires-clause-right : goal.explore_key-requires-clause-right
explore_key-requires-clause-right g c =
    right_none c.args.way.now c.new-walk.result.found c.new-walk.ensures.sense c.new-walk.ensures.rows

pub returns-clause-slice : goal.returns-clause-slice
returns-clause-slice g c =
    let way : IsWay c.args.way.now = subst IsWay c.way.view_is c.way.invariant.0 in
    let made = c.in_ok-explore_key.ensures in
    subst (λ (s : Sense). IsSliceOf c.args.way.now.terms c.args.way.now.body (term_at c.args.way.now.plan.levels 0) c.args.way.now.state (record { key = c.args.key; rows = c.in_ok-rows.rows; sense = s })) (sym c.into_senses.ensures)
    (is_slice c.args.way.now c.new-walk.result.found c.explore_key.new.walk.found c.args.key c.in_ok-rows.rows way.of_body
    c.requires.has_levels c.requires.whole c.requires.tests c.requires.heads made.below.right.tight c.new-walk.ensures.rows made.below.under made.below.explored (c.in_ok-rows.ensures ∙ ap ascending c.into_vec.ensures))

pub returns-clause-gaps : goal.returns-clause-gaps
returns-clause-gaps g c =
    let none : length c.new-walk.result.found.sense.gaps ≡ 0 = ap (λ (s : Sense). length s.gaps) c.new-walk.ensures.sense in
    let gains = c.in_ok-explore_key.ensures.below.gaps in
    let kept = ap (λ (s : Sense). length s.gaps) c.into_senses.ensures in
    omega (arith, none, gains, kept)

pub returns-clause-hits : goal.returns-clause-hits
returns-clause-hits g c =
    let none : length c.new-walk.result.found.sense.hits ≡ 0 = ap (λ (s : Sense). length s.hits) c.new-walk.ensures.sense in
    let gains = c.in_ok-explore_key.ensures.below.hits in
    let kept = ap (λ (s : Sense). length s.hits) c.into_senses.ensures in
    omega (arith, none, gains, kept)
