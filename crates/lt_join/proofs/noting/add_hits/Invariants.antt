use Rattle.std.proofs.Common.{◌≡◌, ◌++◌, take}
use Rattle.lt_join.proofs.noting.add_hits.Given as goal

abbrev pub invariant-loop-at : goal.invariant-loop-at
invariant-loop-at l = l.hits.items ≡ l.fn.hits.items ++ take l.at l.others.items
