use Rattle.std.proofs.Common.{◌∙◌}
use Rattle.std.specs.Arc.{arc_value}
use Rattle.lt_base.specs.Tables.{state_of}
use Rattle.lt_batch.proofs.Indexed.{stays}
use Rattle.lt_batch.proofs.Leaves.{fits_laid}
use Rattle.lt_run_trials.proofs.restatement.corrected.Goals as goal

pub returns-clause-fits : goal.returns-clause-fits
returns-clause-fits c = rw c.in_ok-next.ensures.state (fits_laid (state_of c.args.db.now) (arc_value c.args._prog.now) c.args.marks.now c.requires.fits)

pub returns-clause-indexes : goal.returns-clause-indexes
returns-clause-indexes c =
    stays c.args.db.now c.in_ok-next.next (arc_value c.args._prog.now) (λ relation columns has. c.in_ok-next.ensures.indexes relation columns ∙ has) c.requires.indexes
