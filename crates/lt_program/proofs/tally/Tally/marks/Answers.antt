use Rattle.std.proofs.Common.{subst}
use Rattle.lt_model.specs.Fits.{FitMarks}
use Rattle.lt_base.specs.Tables.{state_of}
use Rattle.lt_program.specs.Tally.{TallyView}
use Rattle.lt_program.proofs.Sounds.{sound_fits}
use Rattle.lt_program.proofs.tally.Tally.marks.Goals as goal

pub returns-clause-fits : goal.returns-clause-fits
returns-clause-fits c = subst (λ (t : TallyView). FitMarks (state_of t.base) t.marks) c.self.view_is (sound_fits _ _ _ c.self.invariant)
