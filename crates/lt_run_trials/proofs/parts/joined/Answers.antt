use Rattle.lt_program.proofs.KeptSlices.{joins_by, picked_answerable}
use Rattle.lt_run_trials.proofs.parts.joined.Goals as goal

pub answers_split-requires-clause-can_join : goal.answers_split-requires-clause-can_join
answers_split-requires-clause-can_join g c = λ lifetimes outlive. joins_by c.args.db.now c.args.body.now c.in_ok-plan.plan (record { planned = c.in_ok-plan.ensures; indexes = c.requires.indexes; fits = c.requires.fits })

pub answers_split-requires-clause-answerable : goal.answers_split-requires-clause-answerable
answers_split-requires-clause-answerable g c = λ lifetimes outlive. picked_answerable c.args.body.now c.args.terms.now c.requires.terms

pub slices_split-requires-clause-can_join : goal.slices_split-requires-clause-can_join
slices_split-requires-clause-can_join g c = λ lifetimes outlive. joins_by c.args.db.now c.args.body.now c.in_ok-plan.plan (record { planned = c.in_ok-plan.ensures; indexes = c.requires.indexes; fits = c.requires.fits })

pub slices_split-requires-clause-answerable : goal.slices_split-requires-clause-answerable
slices_split-requires-clause-answerable g c = λ lifetimes outlive. picked_answerable c.args.body.now c.args.terms.now c.requires.terms

pub answers_split_alone-requires-clause-can_join : goal.answers_split_alone-requires-clause-can_join
answers_split_alone-requires-clause-can_join g c = λ lifetimes outlive. joins_by c.args.db.now c.args.body.now c.in_ok-plan.plan (record { planned = c.in_ok-plan.ensures; indexes = c.requires.indexes; fits = c.requires.fits })

pub answers_split_alone-requires-clause-answerable : goal.answers_split_alone-requires-clause-answerable
answers_split_alone-requires-clause-answerable g c = λ lifetimes outlive. picked_answerable c.args.body.now c.args.terms.now c.requires.terms
