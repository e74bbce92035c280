use Rattle.std.proofs.Common.{◌≡◌, ◌<◌, length, drop}
use Rattle.lt_query.specs.Order.{places_of, place_at}
use Rattle.lt_query.proofs.levels.term_at.Given as goal

abbrev pub invariant-loop-atom : goal.invariant-loop-atom
invariant-loop-atom l = (l.left < length (places_of (drop l.atom-index l.atoms))) × (place_at (places_of (drop l.atom-index l.atoms)) l.left ≡ place_at (places_of l.atoms) l.place)
