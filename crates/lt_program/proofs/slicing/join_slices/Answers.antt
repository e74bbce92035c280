use Rattle.std.proofs.Common.{◌+◌, ◌≤◌, subst}
use Rattle.lt_model.specs.declared.normal.Body.{Body}
use Rattle.lt_base.specs.Tables.{state_of}
use Rattle.lt_program.proofs.KeptSlices.{follows_by, slices_picked, planned_levels, stated_are}
use Rattle.lt_program.proofs.slicing.join_slices.Goals as goal

pub slices-requires-clause-can_follow : goal.slices-requires-clause-can_follow
slices-requires-clause-can_follow g c = follows_by c.args.tables.now c.args.stmt.now c.body_of.result.now c.args.plan.now c.body_of.ensures c.requires.plan c.requires.can_evaluate

pub slices-requires-clause-terms : goal.slices-requires-clause-terms
slices-requires-clause-terms g c = slices_picked c.args.tables.now c.args.stmt.now c.body_of.result.now c.in_ok-terms.terms c.body_of.ensures c.in_ok-terms.ensures c.requires.can_evaluate c.requires.sliced

pub slices-requires-clause-has_levels : goal.slices-requires-clause-has_levels
slices-requires-clause-has_levels g c = planned_levels c.args.stmt.now c.args.plan.now c.requires.plan c.requires.sliced

pub part_by-requires-clause-fits : goal.part_by-requires-clause-fits
part_by-requires-clause-fits g c = (state_of c.args.tables.now, c.requires.can_evaluate.wide, c.requires.can_evaluate.fits)

pub returns-clause-part : goal.returns-clause-part
returns-clause-part g c =
    c.in_ok-part.ensures.part (state_of c.args.tables.now)
    (stated_are c.args.stmt.now c.body_of.result.now c.args.plan.now c.in_ok-terms.terms (state_of c.args.tables.now) c.in_ok-found.found.root c.in_ok-found.found.slices c.body_of.ensures c.requires.plan c.in_ok-terms.ensures c.in_ok-found.ensures.slices)

pub returns-clause-cost : goal.returns-clause-cost
returns-clause-cost g c = subst (λ (b : Body). c.slices.new.moves ≤ c.args.moves.now + g.J.Joiner.most c.args.by.now b (state_of c.args.tables.now)) c.body_of.ensures c.slices.ensures.cost

pub returns-in_err-found-clause-cost : goal.returns-in_err-found-clause-cost
returns-in_err-found-clause-cost g c = subst (λ (b : Body). c.slices.new.moves ≤ c.args.moves.now + g.J.Joiner.most c.args.by.now b (state_of c.args.tables.now)) c.body_of.ensures c.slices.ensures.cost

pub returns-in_err-part-clause-cost : goal.returns-in_err-part-clause-cost
returns-in_err-part-clause-cost g c = subst (λ (b : Body). c.slices.new.moves ≤ c.args.moves.now + g.J.Joiner.most c.args.by.now b (state_of c.args.tables.now)) c.body_of.ensures c.slices.ensures.cost
