use Rattle.std.proofs.Common.{map}
use Rattle.std.specs.Arc.{arc_value}
use Rattle.lt_batch.proofs.AheadRuns.{IsLookedAt}
use Rattle.lt_batch.proofs.ahead.let_go.Given as goal

abbrev pub invariant-loop-place : goal.invariant-loop-place
invariant-loop-place l = IsLookedAt (map arc_value l.progs) l.marks l.from l.place l.fn.ahead.items l.ahead.items
