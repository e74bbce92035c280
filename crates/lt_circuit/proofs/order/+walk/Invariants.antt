use Rattle.lt_circuit.proofs.order.+walk.Given as goal

abbrev pub decreases-walk : goal.decreases-walk
decreases-walk l = l.count
