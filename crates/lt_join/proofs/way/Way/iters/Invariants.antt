use Rattle.std.proofs.Common.{[], take}
use Rattle.std.specs.List.{AllZip}
use Rattle.lt_join.specs.Level.{IsAtomAt}
use Rattle.lt_join.specs.Walked.{at}
use Rattle.lt_join.proofs.way.Way.iters.Given as goal

abbrev pub invariant-loop-guide : goal.invariant-loop-guide
invariant-loop-guide g l = AllZip (IsAtomAt l.self.state 0 (at [])) (take l.guide-index l.self.plan.guides) l.iters.items
