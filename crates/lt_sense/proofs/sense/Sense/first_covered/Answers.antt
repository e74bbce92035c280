use Rattle.std.proofs.lemmas.Grind.{elements}
use Rattle.std.proofs.Common.{arith}
use Rattle.lt_sense.proofs.sense.Sense.first_covered.Goals as goal

pub returns-then-covers-clause-first : goal.returns-then-covers-clause-first
returns-then-covers-clause-first c = grind (arith, elements)

pub loop-i-preserved : goal.loop-i-preserved
loop-i-preserved c = grind (arith, elements)
