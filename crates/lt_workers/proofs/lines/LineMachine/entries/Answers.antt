use Rattle.lt_workers.proofs.Machines.{line_standing}
use Rattle.lt_workers.proofs.lines.LineMachine.entries.Goals as goal

pub returns-clause-standing : goal.returns-clause-standing
returns-clause-standing g c = line_standing g.W.LeafWork.does c.args.self.now c.journal.ensures.replay
