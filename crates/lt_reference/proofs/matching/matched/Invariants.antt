use Rattle.std.proofs.Common.{◌≡◌, length, drop}
use Rattle.lt_join.specs.Values.{values_in}
use Rattle.lt_reference.specs.Values.{matched}
use Rattle.lt_reference.proofs.matching.matched.Given as goal

abbrev pub invariant-loop-i : goal.invariant-loop-i
invariant-loop-i l = (matched (values_in l.values.cells) l.terms l.row ≡ matched (values_in l.next.cells) (drop l.i l.terms) (drop l.i l.row)) × (length l.row ≡ length l.terms)
