use Rattle.lt_measure.specs.Built.{IsBuilt}
use Rattle.lt_measure.proofs.grid.grid.Given as goal

abbrev pub invariant-loop-a : goal.invariant-loop-a
invariant-loop-a l = IsBuilt l.rows l.a 0
