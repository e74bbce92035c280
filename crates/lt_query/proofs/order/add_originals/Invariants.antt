use Rattle.std.proofs.Common.{◌≡◌, ◌++◌}
use Rattle.std.specs.List.{filter, flat_map}
use Rattle.lt_query.specs.Order.{is_original, with_tied}
use Rattle.lt_query.specs.Lists.{below}
use Rattle.lt_query.proofs.order.add_originals.Given as goal

abbrev pub invariant-loop-p : goal.invariant-loop-p
invariant-loop-p l = l.order ≡ l.fn.order ++ flat_map (with_tied l.places) (filter (is_original l.tests l.places l.pinned) (below l.p))
