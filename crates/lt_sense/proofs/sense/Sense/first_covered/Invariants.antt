use Rattle.std.proofs.Common.{take}
use Rattle.lt_sense.specs.Done.{AreAskable}
use Rattle.lt_sense.specs.Spots.{AreUncovered}
use Rattle.lt_sense.proofs.sense.Sense.first_covered.Given as goal

abbrev pub invariant-loop-i : goal.invariant-loop-i
invariant-loop-i l = AreAskable l.self l.changes → AreUncovered l.self (take l.i l.changes)
