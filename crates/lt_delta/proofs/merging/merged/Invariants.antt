use Rattle.std.proofs.Common.{◌≡◌, ◌+◌, ◌-◌, ◌≤◌, ◌++◌, length, drop, map}
use Rattle.std.specs.Arc.{arc_value}
use Rattle.lt_model.specs.Marks.{and_then}
use Rattle.lt_delta.proofs.merging.merged.Given as goal

abbrev pub invariant-both : goal.invariant-both
invariant-both l = record {
  done : map arc_value l.marks.items ++ and_then (drop l.i (map arc_value l.first)) (drop l.j (map arc_value l.second)) ≡ and_then (map arc_value l.first) (map arc_value l.second);
  in_first : l.i ≤ length l.first;
  in_second : l.j ≤ length l.second;
}

abbrev pub decreases-both : goal.decreases-both
decreases-both l = (length l.first - l.i) + (length l.second - l.j)
