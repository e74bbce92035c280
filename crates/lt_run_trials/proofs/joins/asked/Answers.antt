use Rattle.lt_program.proofs.KeptSlices.{joins_by}
use Rattle.lt_run_trials.proofs.joins.asked.Goals as goal

pub some-requires : goal.some-requires
some-requires c = record { can_join = joins_by c.args.db.now c.args.body.now c.in_ok-plan.plan (record { planned = c.in_ok-plan.ensures; indexes = c.requires.indexes; fits = c.requires.fits }) }

pub some_alone-requires : goal.some_alone-requires
some_alone-requires c = record { can_join = joins_by c.args.db.now c.args.body.now c.in_ok-plan.plan (record { planned = c.in_ok-plan.ensures; indexes = c.requires.indexes; fits = c.requires.fits }) }
