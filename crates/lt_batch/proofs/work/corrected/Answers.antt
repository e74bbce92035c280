use Rattle.std.proofs.Common.{◌∙◌, sym, subst}
use Rattle.lt_face.specs.State.{State}
use Rattle.lt_model.specs.Fits.{Fits}
use Rattle.lt_base.specs.Tables.{state_of}
use Rattle.lt_batch.proofs.Indexed.{stays}
use Rattle.lt_batch.proofs.Leaves.{fits_laid}
use Rattle.lt_batch.proofs.work.corrected.Goals as goal

pub returns-clause-fits : goal.returns-clause-fits
returns-clause-fits c = subst (λ (s : State). Fits s c.args._prog.now) (sym c.in_ok-base.ensures.state) (fits_laid (state_of c.args.snapshot.now) c.args._prog.now c.args.on.now c.requires.fits)

pub returns-clause-indexes : goal.returns-clause-indexes
returns-clause-indexes c = stays c.args.snapshot.now c.in_ok-base.base c.args._prog.now (λ relation columns has. c.in_ok-base.ensures.indexes relation columns ∙ has) c.requires.indexes
