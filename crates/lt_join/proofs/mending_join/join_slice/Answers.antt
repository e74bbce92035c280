use Rattle.std.proofs.Common.{◌≡◌, ◌+◌, ◌≤◌, slice_get, Some, sym, ap, ◌∙◌, subst}
use Rattle.std.proofs.lemmas.Result.{IfOk-weaker}
use Rattle.lt_model.specs.declared.normal.Body.{Body}
use Rattle.lt_query.specs.Plan.{term_at}
use Rattle.lt_query.specs.declared.plans.Plan.{Plan}
use Rattle.lt_join.specs.Cost.{bound}
use Rattle.lt_join.specs.MendedPlan.{pinned_plan}
use Rattle.lt_join.specs.Parts.{IsJoinable}
use Rattle.lt_join.specs.Sliced.{pinned}
use Rattle.lt_join.proofs.KeySlices.{empty_of_key, of_key_pinned, slice_pinned}
use Rattle.lt_join.proofs.MendJoin.{IsJoinable-pinned, cost_admitted, empty_slice, term_first}
use Rattle.lt_join.proofs.Steps.{slice_get_is}
use Rattle.lt_join.proofs.mending_join.join_slice.Goals as goal

pub returns-then-not-may_be-clause-slice : goal.returns-then-not-may_be-clause-slice
returns-then-not-may_be-clause-slice g c =
    let plan = c.args.plan.now in
    let level = c.index-as_slice-0.result in
    let here : slice_get plan.levels 0 ≡ Some level = slice_get_is plan.levels 0 level c.requires.has_levels (rw c.as_slice.ensures at c.index-as_slice-0.is) in
    empty_slice c.args.terms.now c.args.body.now plan (g.I.Indexes.state c.args.indexes.now) level _ c.requires.can_join.of_body here (c.may_be.ensures.not_so c.if-not-may_be.true) c.new-rows.ensures c.new-sense.ensures

pub returns-then-not-may_be-clause-of_key : goal.returns-then-not-may_be-clause-of_key
returns-then-not-may_be-clause-of_key g c = empty_of_key c.args.key c.args.body.now (pinned_plan c.args.key c.args.plan.now) (g.I.Indexes.state c.args.indexes.now) c.new-sense.result c.new-sense.ensures

pub slice_of_key-requires-clause-ready : goal.slice_of_key-requires-clause-ready
slice_of_key-requires-clause-ready g c =
    let plan = c.args.plan.now in
    let state = g.I.Indexes.state c.args.indexes.now in
    let has_index = g.I.Indexes.has_index c.args.indexes.now in
    let level = c.index-as_slice-0.result in
    let here : slice_get plan.levels 0 ≡ Some level = slice_get_is plan.levels 0 level c.requires.has_levels (rw c.as_slice.ensures at c.index-as_slice-0.is) in
    let is : c.in_ok-at_key.at_key ≡ pinned (term_at plan.levels 0) c.args.key c.args.body.now = c.in_ok-at_key.ensures ∙ ap (λ t. pinned t c.args.key c.args.body.now) (term_first plan.levels level here) in
    subst (λ (b : Body). IsJoinable state has_index b c.in_ok-way.way c.args.terms.now) (sym is)
    (subst (λ (p : Plan). IsJoinable state has_index (pinned (term_at plan.levels 0) c.args.key c.args.body.now) p c.args.terms.now) (sym c.in_ok-way.ensures)
    (IsJoinable-pinned state has_index c.args.key c.args.body.now plan c.args.terms.now level c.requires.can_join c.requires.answerable c.requires.has_levels (c.may_be.ensures.cell c.if-not-may_be.false) here (c.may_be.ensures.pins c.if-not-may_be.false)))

pub slice_of_key-requires-clause-bound : goal.slice_of_key-requires-clause-bound
slice_of_key-requires-clause-bound g c = (c.may_be.ensures.cell c.if-not-may_be.false).1

pub returns-clause-slice : goal.returns-clause-slice
returns-clause-slice g c =
    let plan = c.args.plan.now in
    let can = c.requires.can_join in
    let level = c.index-as_slice-0.result in
    let here : slice_get plan.levels 0 ≡ Some level = slice_get_is plan.levels 0 level c.requires.has_levels (rw c.as_slice.ensures at c.index-as_slice-0.is) in
    let is : c.in_ok-at_key.at_key ≡ pinned (term_at plan.levels 0) c.args.key c.args.body.now = c.in_ok-at_key.ensures ∙ ap (λ t. pinned t c.args.key c.args.body.now) (term_first plan.levels level here) in
    IfOk-weaker c.slice_of_key.result _ _ (λ found so.
    slice_pinned c.args.terms.now c.args.body.now plan (g.I.Indexes.state c.args.indexes.now) c.args.key c.in_ok-at_key.at_key c.in_ok-way.way is c.in_ok-way.ensures can.of_body c.requires.has_levels (can.fits.is_bound, can.fits.are_absents_bound) c.requires.answerable.are_bound found.0 found.1 so) c.slice_of_key.ensures.slice

pub returns-clause-of_key : goal.returns-clause-of_key
returns-clause-of_key g c =
    let plan = c.args.plan.now in
    let level = c.index-as_slice-0.result in
    let here : slice_get plan.levels 0 ≡ Some level = slice_get_is plan.levels 0 level c.requires.has_levels (rw c.as_slice.ensures at c.index-as_slice-0.is) in
    let is : c.in_ok-at_key.at_key ≡ pinned (term_at plan.levels 0) c.args.key c.args.body.now = c.in_ok-at_key.ensures ∙ ap (λ t. pinned t c.args.key c.args.body.now) (term_first plan.levels level here) in
    IfOk-weaker c.slice_of_key.result _ _ (λ found so.
    of_key_pinned c.args.terms.now c.args.body.now plan (g.I.Indexes.state c.args.indexes.now) c.args.key c.in_ok-at_key.at_key c.in_ok-way.way is c.in_ok-way.ensures found.1 so) c.slice_of_key.ensures.of_key

pub returns-clause-cost : goal.returns-clause-cost
returns-clause-cost g c =
    let plan = c.args.plan.now in
    let state = g.I.Indexes.state c.args.indexes.now in
    let level = c.index-as_slice-0.result in
    let here : slice_get plan.levels 0 ≡ Some level = slice_get_is plan.levels 0 level c.requires.has_levels (rw c.as_slice.ensures at c.index-as_slice-0.is) in
    let within : c.slice_of_key.new.moves ≤ c.args.moves.now + bound c.args.body.now (pinned_plan c.args.key plan) state =
    subst (λ (b : Body). c.slice_of_key.new.moves ≤ c.args.moves.now + bound b (pinned_plan c.args.key plan) state) c.in_ok-at_key.ensures
    (subst (λ (p : Plan). c.slice_of_key.new.moves ≤ c.args.moves.now + bound c.in_ok-at_key.at_key p state) c.in_ok-way.ensures c.slice_of_key.ensures.cost) in
    subst (λ n. c.slice_of_key.new.moves ≤ c.args.moves.now + n) (cost_admitted c.args.key c.args.body.now plan state level here (c.may_be.ensures.cell c.if-not-may_be.false) (c.may_be.ensures.pins c.if-not-may_be.false)) within
