use Rattle.std.proofs.Common.{◌≡◌, ◌++◌}
use Rattle.std.specs.List.{filter}
use Rattle.lt_model.specs.declared.normal.Term.TheVariants.{Var}
use Rattle.lt_query.specs.Order.{is_tied_to, place_at}
use Rattle.lt_query.specs.Lists.{below}
use Rattle.lt_query.proofs.order.add_tied.Given as goal

abbrev pub invariant-loop-q : goal.invariant-loop-q
invariant-loop-q l = l.order ≡ l.fn.order ++ filter (λ q. is_tied_to (Var l.v) (place_at l.places q)) (below l.q)
