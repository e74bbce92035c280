use Rattle.lt_circuit.specs.Row.{AreOpening}
use Rattle.lt_circuit.proofs.row.opening.opened.Given as goal

abbrev pub invariant-loop-s : goal.invariant-loop-s
invariant-loop-s l = AreOpening l.segments.items l.leaves l.s
