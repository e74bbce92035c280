use Rattle.std.proofs.Common.{◌∙◌, length, ap, sym, subst, arith}
use Rattle.lt_base.specs.Tables.{state_of}
use Rattle.lt_net.specs.Net.{opening}
use Rattle.lt_net.specs.Tree.{circuit_net, tree_of}
use Rattle.lt_batch.specs.Work.{AreRunnable, BatchView, IsLeaf, batch_does}
use Rattle.lt_batch.proofs.replaying.opened.Goals as goal

pub start-requires-clause-has : goal.start-requires-clause-has
start-requires-clause-has g c = λ i below.
    subst (λ (work : BatchView). IsLeaf work i) (sym (c.in_ok-clone.ensures.cases ∙ c.in_ok-work-2.ensures.ok)) (c.in_ok-work.ensures.leaves i (omega arith))

pub returns-clause-work : goal.returns-clause-work
returns-clause-work g c = c.in_ok-circuit.ensures.work ∙ c.in_ok-clone.ensures.cases

pub returns-clause-programs : goal.returns-clause-programs
returns-clause-programs g c = ap (λ (work : BatchView). work.programs) (c.in_ok-circuit.ensures.work ∙ c.in_ok-clone.ensures.cases ∙ c.in_ok-work-2.ensures.ok) ∙ c.in_ok-work.ensures.programs

pub returns-clause-batches : goal.returns-clause-batches
returns-clause-batches g c = ap (λ (work : BatchView). work.batches) (c.in_ok-circuit.ensures.work ∙ c.in_ok-clone.ensures.cases ∙ c.in_ok-work-2.ensures.ok) ∙ c.in_ok-work.ensures.batches

pub returns-clause-snapshot : goal.returns-clause-snapshot
returns-clause-snapshot g c = ap (λ (work : BatchView). state_of work.snapshot) (c.in_ok-circuit.ensures.work ∙ c.in_ok-clone.ensures.cases ∙ c.in_ok-work-2.ensures.ok) ∙ c.in_ok-work.ensures.snapshot

pub returns-clause-runnable : goal.returns-clause-runnable
returns-clause-runnable g c = subst (λ (work : BatchView). AreRunnable (state_of work.snapshot) work.programs) (sym (c.in_ok-circuit.ensures.work ∙ c.in_ok-clone.ensures.cases ∙ c.in_ok-work-2.ensures.ok)) c.in_ok-work.ensures.runnable

pub returns-clause-opening : goal.returns-clause-opening
returns-clause-opening g c =
    c.in_ok-circuit.ensures.state
    ∙ ap (λ (work : BatchView). opening (circuit_net (batch_does work) (tree_of (length c.args.progs.now)))) (sym c.in_ok-circuit.ensures.work)
    ∙ ap (λ n. opening (circuit_net (batch_does c.in_ok-circuit.circuit.work) (tree_of n))) (sym c.in_ok-circuit.ensures.leaves)
