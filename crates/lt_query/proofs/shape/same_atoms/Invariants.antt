use Rattle.std.proofs.Common.{◌≡◌, drop}
use Rattle.std.specs.Cmp.Lexicographic.{pointwise}
use Rattle.lt_query.specs.Shape.{same_atom}
use Rattle.lt_query.proofs.shape.same_atoms.Given as goal

abbrev pub invariant-loop-i : goal.invariant-loop-i
invariant-loop-i l = pointwise same_atom (drop l.i l.a) (drop l.i l.b) ≡ pointwise same_atom l.a l.b
