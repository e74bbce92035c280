use Rattle.std.proofs.Common.{◌≡◌, ◌++◌}
use Rattle.std.specs.List.{filter}
use Rattle.lt_query.specs.Holding.{holds_level, guide_at}
use Rattle.lt_query.specs.Lists.{below}
use Rattle.lt_query.proofs.holders.add_places.Given as goal

abbrev pub invariant-loop-i : goal.invariant-loop-i
invariant-loop-i l = l.places.items ≡ l.fn.places.items ++ filter (λ i. holds_level l.level (guide_at l.guides i)) (below l.i)
