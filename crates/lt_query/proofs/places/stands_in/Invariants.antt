use Rattle.std.proofs.Common.{◌≡◌, drop}
use Rattle.lt_model.specs.Bound.{stands}
use Rattle.lt_query.proofs.places.stands_in.Given as goal

abbrev pub invariant-loop-term : goal.invariant-loop-term
invariant-loop-term l = stands (drop l.term-index l.terms) l.v ≡ stands l.terms l.v
