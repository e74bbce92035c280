use Rattle.lt_base.specs.Tables.{state_of}
use Rattle.lt_program.proofs.KeptSlices.{joins_by, picked_answerable, found_are}
use Rattle.lt_program.proofs.joining.slices_whole.Goals as goal

pub slices-requires-clause-can_join : goal.slices-requires-clause-can_join
slices-requires-clause-can_join g c = joins_by c.args.tables.now c.args.body.now c.args.plan.now c.requires.can_follow

pub slices-requires-clause-answerable : goal.slices-requires-clause-answerable
slices-requires-clause-answerable g c = picked_answerable c.args.body.now c.args.terms.now c.requires.terms

pub returns-clause-slices : goal.returns-clause-slices
returns-clause-slices g c =
    found_are c.args.terms.now c.args.body.now c.args.plan.now (state_of c.args.tables.now) c.in_ok-found.found.root c.in_ok-found.found.slices
    c.in_ok-found.ensures.ascending c.in_ok-found.ensures.slices c.in_ok-found.ensures.rooted c.in_ok-found.ensures.tight c.in_ok-found.ensures.root_hits c.in_ok-found.ensures.root_gaps
