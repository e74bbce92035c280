use Rattle.std.proofs.Common.{map}
use Rattle.std.specs.Arc.{arc_value}
use Rattle.lt_batch.proofs.AheadRuns.{IsGoing}
use Rattle.lt_batch.proofs.fold.Fold.go_round.Given as goal

abbrev pub invariant-loop-i : goal.invariant-loop-i
invariant-loop-i l = IsGoing (map arc_value l.round) l.fn.self l.i l.self l.since l.ahead.items
