use Rattle.std.proofs.Common.{◌≡◌, [], length, sym, ap, arith, ◌∙◌, subst}
use Rattle.lt_model.specs.Answers.{Values, ascending}
use Rattle.lt_sense.specs.Sense.{IsTight}
use Rattle.lt_sense.specs.Kept.{Sense}
use Rattle.lt_join.specs.Certify.{Certifies}
use Rattle.lt_join.specs.Known.{IsKnown}
use Rattle.lt_join.specs.Way.{AreDecidedBy, WayView}
use Rattle.lt_join.proofs.Answered.{all_wanted, answers_of, certified_of, cost_of, reached_of, way_of}
use Rattle.lt_join.proofs.Going.{right_none}
use Rattle.lt_join.proofs.Known.{IsKnown-root}
use Rattle.lt_join.proofs.answer.answers_prepared.Goals as goal

pub new-requires-clause-decided : goal.new-requires-clause-decided
new-requires-clause-decided g c =
    let all = c.len-wanted.ensures in
    λ each less. absurd {A = AreDecidedBy c.args.plan.now.levels c.len-wanted.result c.as_slice.result.now} (omega arith)

pub walk_all-requires-clause-known : goal.walk_all-requires-clause-known
walk_all-requires-clause-known g c =
    subst (λ (vs : Values). IsKnown c.in_ok-way.way.plan.levels [] vs) (sym c.new-walk.ensures.values) (IsKnown-root c.in_ok-way.way.plan.levels)

pub walk_all-requires-clause-reached : goal.walk_all-requires-clause-reached
walk_all-requires-clause-reached g c =
    reached_of (g.I.Indexes.state c.args.indexes.now) c.args.body.now c.args.plan.now c.args.terms.now c.in_ok-way.way (way_of (g.I.Indexes.state c.args.indexes.now) c.args.body.now c.args.plan.now c.args.terms.now c.as_slice.result.now c.len-wanted.result c.in_ok-way.way c.as_slice.ensures c.in_ok-way.ensures) c.requires.prepared c.new-walk.result.found.sense

pub walk_all-requires-clause-right : goal.walk_all-requires-clause-right
walk_all-requires-clause-right g c =
    right_none c.in_ok-way.way c.new-walk.result.found c.new-walk.ensures.sense c.new-walk.ensures.rows

pub returns-clause-rows : goal.returns-clause-rows
returns-clause-rows g c =
    c.in_ok-rows.ensures
    ∙ (ap ascending c.into_vec.ensures
    ∙ answers_of (g.I.Indexes.state c.args.indexes.now) c.args.body.now c.args.plan.now c.args.terms.now c.in_ok-way.way (way_of (g.I.Indexes.state c.args.indexes.now) c.args.body.now c.args.plan.now c.args.terms.now c.as_slice.result.now c.len-wanted.result c.in_ok-way.way c.as_slice.ensures c.in_ok-way.ensures) c.new-walk.result.found c.walk_all.new.walk.found c.args.moves.now c.walk_all.new.moves c.in_ok-walk_all.field-0 c.requires.of_body c.requires.tests c.requires.are_bound c.in_ok-walk_all.ensures.walked)

pub returns-clause-certified : goal.returns-clause-certified
returns-clause-certified g c =
    subst (λ (s : Sense). Certifies s c.args.body.now (g.I.Indexes.state c.args.indexes.now)) (sym c.into_senses.ensures)
    (certified_of (g.I.Indexes.state c.args.indexes.now) c.args.body.now c.args.plan.now c.args.terms.now c.in_ok-way.way (way_of (g.I.Indexes.state c.args.indexes.now) c.args.body.now c.args.plan.now c.args.terms.now c.as_slice.result.now c.len-wanted.result c.in_ok-way.way c.as_slice.ensures c.in_ok-way.ensures) c.new-walk.result.found c.walk_all.new.walk.found c.args.moves.now c.walk_all.new.moves c.in_ok-walk_all.field-0
    (all_wanted (g.I.Indexes.state c.args.indexes.now) c.args.body.now c.args.plan.now c.as_slice.result.now c.len-wanted.result c.in_ok-way.way c.len-wanted.ensures c.in_ok-way.ensures) c.requires.of_body c.requires.tests c.requires.are_bound c.in_ok-walk_all.ensures.walked)

pub returns-clause-tight : goal.returns-clause-tight
returns-clause-tight g c =
    subst (λ (s : Sense). IsTight s (g.I.Indexes.state c.args.indexes.now)) (sym c.into_senses.ensures) (subst (λ (w : WayView). IsTight c.walk_all.new.walk.found.sense w.state) c.in_ok-way.ensures c.in_ok-walk_all.ensures.walked.right.tight)

pub returns-clause-gaps : goal.returns-clause-gaps
returns-clause-gaps g c =
    let none : length c.new-walk.result.found.sense.gaps ≡ 0 = ap (λ (s : Sense). length s.gaps) c.new-walk.ensures.sense in
    let same = ap (λ (s : Sense). length s.gaps) c.into_senses.ensures in
    let fewer = c.in_ok-walk_all.ensures.walked.gains.gaps in
    omega (arith, none, same, fewer)

pub returns-clause-hits : goal.returns-clause-hits
returns-clause-hits g c =
    let none : length c.new-walk.result.found.sense.hits ≡ 0 = ap (λ (s : Sense). length s.hits) c.new-walk.ensures.sense in
    let same = ap (λ (s : Sense). length s.hits) c.into_senses.ensures in
    let fewer = c.in_ok-walk_all.ensures.walked.gains.hits in
    omega (arith, none, same, fewer)

pub returns-clause-cost : goal.returns-clause-cost
returns-clause-cost g c =
    cost_of (g.I.Indexes.state c.args.indexes.now) c.args.body.now c.args.plan.now c.args.terms.now c.in_ok-way.way (way_of (g.I.Indexes.state c.args.indexes.now) c.args.body.now c.args.plan.now c.args.terms.now c.as_slice.result.now c.len-wanted.result c.in_ok-way.way c.as_slice.ensures c.in_ok-way.ensures) c.args.moves.now c.walk_all.new.moves c.walk_all.ensures.cost
