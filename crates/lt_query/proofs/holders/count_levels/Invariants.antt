use Rattle.std.proofs.Common.{take}
use Rattle.lt_query.specs.Holding.{AreBelow}
use Rattle.lt_query.proofs.holders.count_levels.Given as goal

abbrev pub invariant-loop-guide : goal.invariant-loop-guide
invariant-loop-guide l = AreBelow l.count (take l.guide-index l.guides)
