use Rattle.lt_workers.proofs.Machines.{circuit_standing}
use Rattle.lt_workers.proofs.circuits.CircuitMachine.entries.Goals as goal

pub returns-clause-standing : goal.returns-clause-standing
returns-clause-standing g c = circuit_standing g.W.LeafWork.does c.args.self.now c.journal.ensures.replay
