use Rattle.std.proofs.Common.{◌≡◌, ◌+◌, ◌≤◌, map, length}
use Rattle.std.specs.Arc.{arc_value}
use Rattle.std.specs.Vec.{vec_len, vec_capacity}
use Rattle.lt_model.specs.Marks.{and_then}
use Rattle.lt_delta.proofs.adding.put_each.Given as goal

abbrev pub invariant-loop-mark : goal.invariant-loop-mark
invariant-loop-mark l = record {
  can_next : (goal.iterator-loop-mark).can_next l.mark-iterator;
  is_finite : (goal.iterator-loop-mark).is_finite l.mark-iterator;
  done : map arc_value l.marks.items ≡ and_then (map arc_value l.fn.marks.items) (map arc_value l.yielded);
  room : vec_len l.marks + length l.fn.more.items ≤ vec_capacity l.marks + length l.yielded;
}
