use Rattle.std.proofs.Common.{◌≡◌, ◌≤◌, length}
use Rattle.lt_circuit.specs.Row.{most_segments}
use Rattle.lt_circuit.proofs.line.Line.free_leaf.Given as goal

abbrev pub invariant-loop-s : goal.invariant-loop-s
invariant-loop-s g l = (l.s-end ≡ length l.self.row) × (l.s-end ≤ most_segments)
