use Rattle.std.proofs.Common.{◌≢◌, take}
use Rattle.std.specs.List.{AllByRecursion}
use Rattle.lt_sense.specs.Held.{indexes}
use Rattle.lt_sense.proofs.gathering.place_of.Given as goal

abbrev pub invariant-loop-at : goal.invariant-loop-at
invariant-loop-at l = AllByRecursion (λ i. i ≢ (l.relation, l.perm)) (indexes (take l.at l.lists.items))
