use Rattle.std.proofs.Common.{take}
use Rattle.lt_program.proofs.InUse.{HasGuides}
use Rattle.lt_program.proofs.indexing.are_in_use.Given as goal

abbrev pub invariant-loop-guide : goal.invariant-loop-guide
invariant-loop-guide l = HasGuides l.base (take l.guide-index l.guides)
