use Rattle.std.proofs.Common.{◌≡◌}
use Rattle.lt_circuit.specs.Board.{table, bare_node}
use Rattle.lt_circuit.proofs.nodes.bare_nodes.Given as goal

abbrev pub invariant-loop-node : goal.invariant-loop-node
invariant-loop-node l = l.nodes.items ≡ table (λ k. bare_node) l._node
