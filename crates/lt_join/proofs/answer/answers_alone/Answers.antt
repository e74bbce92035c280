use Rattle.std.specs.Prelude.{◌≡◌, List, [], length}
use Rattle.std.proofs.Common.{sym, ap, ◌∙◌, subst, inl, inr, arith}
use Rattle.lt_model.specs.declared.normal.Term.{Term}
use Rattle.lt_model.specs.Answers.{Values, ascending}
use Rattle.lt_query.specs.declared.plans.Level.{Level}
use Rattle.lt_join.specs.Holders.{IsPrepared}
use Rattle.lt_join.specs.Known.{IsKnown}
use Rattle.lt_join.specs.Way.{AreDecidedBy}
use Rattle.lt_join.proofs.Answered.{answers_of, cost_of, reached_of, way_of}
use Rattle.lt_join.proofs.Going.{right_none}
use Rattle.lt_join.proofs.Known.{IsKnown-root}
use Rattle.lt_join.proofs.Prepared.{IsPrepared-from}
use Rattle.lt_join.proofs.answer.answers_alone.Goals as goal

pub new-requires-clause-prepared : goal.new-requires-clause-prepared
new-requires-clause-prepared g c =
    subst (λ (terms : List Term). IsPrepared c.args.body.now c.args.plan.now terms) (sym c.as_slice-3.ensures) (IsPrepared-from (g.I.Indexes.state c.args.indexes.now) c.args.body.now c.args.plan.now c.args.terms.now c.requires.can_join.fits c.requires.can_join.runnable c.requires.answerable.narrow)

pub new-requires-clause-decided : goal.new-requires-clause-decided
new-requires-clause-decided g c =
    let levels : c.as_slice.result.now ≡ c.args.plan.now.levels = c.as_slice.ensures in
    let count = ap (λ (ls : List Level). length ls) levels in
    let terms : c.as_slice-2.result.now ≡ c.as_slice-3.result.now = c.as_slice-2.ensures ∙ sym c.as_slice-3.ensures in
    λ each less. elim c.wanted_by-wanted.ensures.decided [
      | inl all ↦ absurd {A = AreDecidedBy c.args.plan.now.levels c.wanted_by-wanted.result c.as_slice-3.result.now} (omega (arith, all, count, less))
      | inr decided ↦ subst (λ (ls : List Level). AreDecidedBy ls c.wanted_by-wanted.result c.as_slice-3.result.now) levels (subst (λ (ts : List Term). AreDecidedBy c.as_slice.result.now c.wanted_by-wanted.result ts) terms decided)
    ]

pub walk_all-requires-clause-known : goal.walk_all-requires-clause-known
walk_all-requires-clause-known g c =
    subst (λ (vs : Values). IsKnown c.in_ok-way.way.plan.levels [] vs) (sym c.new-walk.ensures.values) (IsKnown-root c.in_ok-way.way.plan.levels)

pub walk_all-requires-clause-reached : goal.walk_all-requires-clause-reached
walk_all-requires-clause-reached g c =
    reached_of (g.I.Indexes.state c.args.indexes.now) c.args.body.now c.args.plan.now c.args.terms.now c.in_ok-way.way (way_of (g.I.Indexes.state c.args.indexes.now) c.args.body.now c.args.plan.now c.args.terms.now c.as_slice-3.result.now c.wanted_by-wanted.result c.in_ok-way.way c.as_slice-3.ensures c.in_ok-way.ensures) (IsPrepared-from (g.I.Indexes.state c.args.indexes.now) c.args.body.now c.args.plan.now c.args.terms.now c.requires.can_join.fits c.requires.can_join.runnable c.requires.answerable.narrow) c.new-walk.result.found.sense

pub walk_all-requires-clause-right : goal.walk_all-requires-clause-right
walk_all-requires-clause-right g c =
    right_none c.in_ok-way.way c.new-walk.result.found c.new-walk.ensures.sense c.new-walk.ensures.rows

pub returns-clause-rows : goal.returns-clause-rows
returns-clause-rows g c =
    c.in_ok-rows.ensures
    ∙ (ap ascending c.into_vec.ensures
    ∙ answers_of (g.I.Indexes.state c.args.indexes.now) c.args.body.now c.args.plan.now c.args.terms.now c.in_ok-way.way (way_of (g.I.Indexes.state c.args.indexes.now) c.args.body.now c.args.plan.now c.args.terms.now c.as_slice-3.result.now c.wanted_by-wanted.result c.in_ok-way.way c.as_slice-3.ensures c.in_ok-way.ensures) c.new-walk.result.found c.walk_all.new.walk.found c.args.moves.now c.walk_all.new.moves c.in_ok-walk_all.field-0 c.requires.can_join.of_body (c.requires.can_join.fits.is_bound, c.requires.can_join.fits.are_absents_bound) c.requires.answerable.are_bound c.in_ok-walk_all.ensures.walked)

pub returns-clause-cost : goal.returns-clause-cost
returns-clause-cost g c =
    cost_of (g.I.Indexes.state c.args.indexes.now) c.args.body.now c.args.plan.now c.args.terms.now c.in_ok-way.way (way_of (g.I.Indexes.state c.args.indexes.now) c.args.body.now c.args.plan.now c.args.terms.now c.as_slice-3.result.now c.wanted_by-wanted.result c.in_ok-way.way c.as_slice-3.ensures c.in_ok-way.ensures) c.args.moves.now c.walk_all.new.moves c.walk_all.ensures.cost
