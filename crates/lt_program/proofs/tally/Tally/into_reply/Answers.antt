use Rattle.lt_program.proofs.Sounds.{sound_replied}
use Rattle.lt_program.proofs.tally.Tally.into_reply.Goals as goal

pub returns-clause-printed : goal.returns-clause-printed
returns-clause-printed c = sound_replied _ _ _ c.self.invariant
