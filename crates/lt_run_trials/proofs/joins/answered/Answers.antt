use Rattle.lt_program.proofs.KeptSlices.{joins_by, picked_answerable}
use Rattle.lt_run_trials.proofs.joins.answered.Goals as goal

pub answers-requires-clause-can_join : goal.answers-requires-clause-can_join
answers-requires-clause-can_join c = joins_by c.args.db.now c.args.body.now c.in_ok-plan.plan (record { planned = c.in_ok-plan.ensures; indexes = c.requires.indexes; fits = c.requires.fits })

pub answers-requires-clause-answerable : goal.answers-requires-clause-answerable
answers-requires-clause-answerable c = picked_answerable c.args.body.now c.args.terms.now c.requires.terms

pub answers_alone-requires-clause-can_join : goal.answers_alone-requires-clause-can_join
answers_alone-requires-clause-can_join c = joins_by c.args.db.now c.args.body.now c.in_ok-plan.plan (record { planned = c.in_ok-plan.ensures; indexes = c.requires.indexes; fits = c.requires.fits })

pub answers_alone-requires-clause-answerable : goal.answers_alone-requires-clause-answerable
answers_alone-requires-clause-answerable c = picked_answerable c.args.body.now c.args.terms.now c.requires.terms
