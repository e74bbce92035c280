use Rattle.lt_circuit.specs.Line.{line_state}
use Rattle.lt_circuit.specs.LineJob.{claim_of_line_output}
use Rattle.lt_workers.specs.Machines.{line_net_of, line_basis_of}
use Rattle.lt_workers.proofs.Machines.{line_moved, finished_free}
use Rattle.lt_workers.proofs.lines.LineMachine.end.Goals as goal

pub returns-clause-moved : goal.returns-clause-moved
returns-clause-moved g c =
    line_moved g.W.LeafWork.does c.args.self.now c.finish-spent.new.self c.args.worker _ _ c.journal-before.ensures.replay c.journal-after.ensures.replay c.finish-spent.ensures.work c.finish-spent.ensures.sizes c.finish-spent.ensures.journal c.finish-spent.ensures.others

pub returns-clause-stores : goal.returns-clause-stores
returns-clause-stores g c = record { entry = c.finish-spent.ensures.journal; finishes = c.finish-spent.ensures.state; tallies = c.finish-spent.ensures.tallies }

pub returns-clause-free : goal.returns-clause-free
returns-clause-free g c = finished_free (line_net_of g.W.LeafWork.does (line_basis_of c.args.self.now)) (line_state c.args.self.now) (line_state c.finish-spent.new.self) c.args.worker (claim_of_line_output c.args.output) c.finish-spent.ensures.state
