use Rattle.std.proofs.Common.{◌≡◌, ◌-◌}
use Rattle.lt_net.specs.Alone.{lowest_pending}
use Rattle.lt_net.specs.LineAlone.{tree_in}
use Rattle.lt_circuit.specs.Line.{line_state}
use Rattle.lt_circuit.proofs.line.Line.lowest_pending_leaf.Given as goal

abbrev pub invariant-loop-leaf : goal.invariant-loop-leaf
invariant-loop-leaf g l = lowest_pending (tree_in l.s (line_state l.self)) 0 l.leaves ≡ lowest_pending (tree_in l.s (line_state l.self)) l.leaf (l.leaves - l.leaf)
