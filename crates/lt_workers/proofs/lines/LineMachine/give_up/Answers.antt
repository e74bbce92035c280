use Rattle.lt_circuit.specs.Line.{line_state}
use Rattle.lt_circuit.specs.LineJob.{claim_of_line_job}
use Rattle.lt_workers.proofs.Machines.{line_moved, line_gave_up, abandoned_free}
use Rattle.lt_workers.proofs.lines.LineMachine.give_up.Goals as goal

pub returns-clause-moved : goal.returns-clause-moved
returns-clause-moved g c =
    line_moved g.W.LeafWork.does c.args.self.now c.abandon-spent.new.self c.args.worker _ _ c.journal-before.ensures.replay c.journal-after.ensures.replay c.abandon-spent.ensures.work c.abandon-spent.ensures.sizes c.abandon-spent.ensures.journal c.abandon-spent.ensures.others

pub returns-clause-takes_back : goal.returns-clause-takes_back
returns-clause-takes_back g c = record { entry = c.abandon-spent.ensures.journal; abandons = c.abandon-spent.ensures.state; tallies = c.abandon-spent.ensures.tallies }

pub returns-clause-gave_up : goal.returns-clause-gave_up
returns-clause-gave_up g c = line_gave_up c.args.self.now c.abandon-spent.new.self c.args.worker _ c.abandon-spent.ensures.journal

pub returns-clause-free : goal.returns-clause-free
returns-clause-free g c = abandoned_free (line_state c.args.self.now) (line_state c.abandon-spent.new.self) c.args.worker (claim_of_line_job c.args.job) c.abandon-spent.ensures.state
