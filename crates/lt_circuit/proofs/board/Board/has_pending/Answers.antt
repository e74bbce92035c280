use Rattle.std.proofs.Common.{arith}
use Rattle.std.proofs.Math.ListN.{get_or-eq_default}
use Rattle.lt_net.specs.declared.job.JobState.TheVariants.{Clean}
use Rattle.lt_circuit.proofs.board.Board.has_pending.Goals as goal

pub returns-clause-high : goal.returns-clause-high
returns-clause-high c = rw (← c.self.view_is) (λ job le. get_or-eq_default c.self.inside.jobs Clean (omega (arith, le, c.self.invariant.states_there, c.self.invariant.small)))
