use Rattle.std.proofs.Common.{subst}
use Rattle.lt_program.specs.Run.{AreReplied}
use Rattle.lt_program.specs.Tally.{TallyView}
use Rattle.lt_program.proofs.Sounds.{sound_replied}
use Rattle.lt_program.proofs.tally.Tally.reply.Goals as goal

pub returns-clause-printed : goal.returns-clause-printed
returns-clause-printed c = subst (λ (t : TallyView). AreReplied t.reply) c.self.view_is (sound_replied _ _ _ c.self.invariant)
