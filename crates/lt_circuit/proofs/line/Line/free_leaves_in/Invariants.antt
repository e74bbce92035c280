use Rattle.std.proofs.Common.{◌≤◌}
use Rattle.lt_circuit.proofs.line.Line.free_leaves_in.Given as goal

abbrev pub invariant-loop-leaf : goal.invariant-loop-leaf
invariant-loop-leaf g l = l.leaf-end ≤ 256
