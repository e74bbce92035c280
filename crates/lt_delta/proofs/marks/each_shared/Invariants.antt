use Rattle.std.proofs.Common.{◌≡◌, map}
use Rattle.std.specs.Arc.{arc_value}
use Rattle.lt_delta.proofs.marks.each_shared.Given as goal

abbrev pub invariant-loop-mark : goal.invariant-loop-mark
invariant-loop-mark l = record {
  can_next : (goal.iterator-loop-mark).can_next l.mark-iterator;
  is_finite : (goal.iterator-loop-mark).is_finite l.mark-iterator;
  done : map arc_value l.shared.items ≡ l.yielded;
}
