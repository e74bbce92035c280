use Rattle.std.proofs.Common.{ℕ, List, ◌++◌, map, take}
use Rattle.lt_join.specs.Lone.{IsLeftBy}
use Rattle.lt_join.specs.Walked.{at}
use Rattle.lt_join.proofs.level.and_ties.Given as goal

abbrev pub invariant-loop-tie : goal.invariant-loop-tie
invariant-loop-tie l = (before : List ℕ) → IsLeftBy before l.fn.asked → IsLeftBy (before ++ map (at l._keys) (take l.tie-index l.ties)) l.asked
