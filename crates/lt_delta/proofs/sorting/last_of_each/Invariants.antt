use Rattle.std.proofs.Common.{◌≡◌, []}
use Rattle.lt_model.specs.Marks.{and_then}
use Rattle.lt_delta.proofs.sorting.last_of_each.Given as goal

abbrev pub invariant-loop-mark : goal.invariant-loop-mark
invariant-loop-mark l = record {
  can_next : (goal.iterator-loop-mark).can_next l.mark-iterator;
  is_finite : (goal.iterator-loop-mark).is_finite l.mark-iterator;
  done : l.marks.items ≡ and_then [] l.yielded;
}
