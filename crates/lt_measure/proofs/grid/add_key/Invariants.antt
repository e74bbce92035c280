use Rattle.lt_measure.specs.Built.{IsBuilt}
use Rattle.lt_measure.proofs.grid.add_key.Given as goal

abbrev pub invariant-loop-b : goal.invariant-loop-b
invariant-loop-b l = IsBuilt l.rows l.a l.b
