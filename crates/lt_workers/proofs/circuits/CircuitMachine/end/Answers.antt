use Rattle.lt_circuit.specs.Circuit.{state}
use Rattle.lt_circuit.specs.Job.{claim_of_output}
use Rattle.lt_workers.specs.Machines.{net_of, basis_of}
use Rattle.lt_workers.proofs.Machines.{circuit_moved, finished_free}
use Rattle.lt_workers.proofs.circuits.CircuitMachine.end.Goals as goal

pub returns-clause-moved : goal.returns-clause-moved
returns-clause-moved g c =
    circuit_moved g.W.LeafWork.does c.args.self.now c.finish-spent.new.self c.args.worker _ _ c.journal-before.ensures.replay c.journal-after.ensures.replay c.finish-spent.ensures.work c.finish-spent.ensures.leaves c.finish-spent.ensures.journal c.finish-spent.ensures.others

pub returns-clause-stores : goal.returns-clause-stores
returns-clause-stores g c = record { entry = c.finish-spent.ensures.journal; finishes = c.finish-spent.ensures.state; tallies = c.finish-spent.ensures.tallies }

pub returns-clause-free : goal.returns-clause-free
returns-clause-free g c = finished_free (net_of g.W.LeafWork.does (basis_of c.args.self.now)) (state c.args.self.now) (state c.finish-spent.new.self) c.args.worker (claim_of_output c.args.output) c.finish-spent.ensures.state
