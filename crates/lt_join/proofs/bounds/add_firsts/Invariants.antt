use Rattle.lt_join.proofs.BoundLaws.{AreLower}
use Rattle.lt_join.proofs.bounds.add_firsts.Given as goal

abbrev pub invariant-loop-row : goal.invariant-loop-row
invariant-loop-row l = AreLower l.bounds.items l.row-index l.last
