use Rattle.lt_circuit.specs.Circuit.{state}
use Rattle.lt_circuit.specs.Job.{claim_of_job}
use Rattle.lt_workers.proofs.Machines.{circuit_moved, circuit_gave_up, abandoned_free}
use Rattle.lt_workers.proofs.circuits.CircuitMachine.give_up.Goals as goal

pub returns-clause-moved : goal.returns-clause-moved
returns-clause-moved g c =
    circuit_moved g.W.LeafWork.does c.args.self.now c.abandon-spent.new.self c.args.worker _ _ c.journal-before.ensures.replay c.journal-after.ensures.replay c.abandon-spent.ensures.work c.abandon-spent.ensures.leaves c.abandon-spent.ensures.journal c.abandon-spent.ensures.others

pub returns-clause-takes_back : goal.returns-clause-takes_back
returns-clause-takes_back g c = record { entry = c.abandon-spent.ensures.journal; abandons = c.abandon-spent.ensures.state; tallies = c.abandon-spent.ensures.tallies }

pub returns-clause-gave_up : goal.returns-clause-gave_up
returns-clause-gave_up g c = circuit_gave_up c.args.self.now c.abandon-spent.new.self c.args.worker _ c.abandon-spent.ensures.journal

pub returns-clause-free : goal.returns-clause-free
returns-clause-free g c = abandoned_free (state c.args.self.now) (state c.abandon-spent.new.self) c.args.worker (claim_of_job c.args.job) c.abandon-spent.ensures.state
