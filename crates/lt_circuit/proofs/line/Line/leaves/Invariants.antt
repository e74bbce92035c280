use Rattle.std.proofs.Common.{◌≡◌, length}
use Rattle.lt_circuit.proofs.line.Line.leaves.Given as goal

abbrev pub invariant-loop-s : goal.invariant-loop-s
invariant-loop-s g l = l.s-end ≡ length l.self.row
