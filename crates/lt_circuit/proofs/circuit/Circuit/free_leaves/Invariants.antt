use Rattle.std.proofs.Common.{◌≡◌}
use Rattle.lt_circuit.proofs.circuit.Circuit.free_leaves.Given as goal

abbrev pub invariant-loop-leaf : goal.invariant-loop-leaf
invariant-loop-leaf g l = l.leaf-end ≡ l.self.board.leaves
