use Rattle.lt_base.specs.Tables.{state_of}
use Rattle.lt_circuit.specs.Circuit.{state}
use Rattle.lt_net.specs.Tree.{leaf_value}
use Rattle.lt_batch.proofs.InOrder.{RanFirst}
use Rattle.lt_batch.proofs.gathering.gathered.Given as goal

abbrev pub invariant-loop-leaf : goal.invariant-loop-leaf
invariant-loop-leaf l = RanFirst l.circuit.work.programs (state_of l.circuit.work.snapshot) (leaf_value l.circuit.board.leaves (state l.circuit)) l.leaf l.replies l.effects
