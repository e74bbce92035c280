use Rattle.std.proofs.Common.{◌≡◌, ◌++◌, drop, map}
use Rattle.std.specs.Arc.{arc_value}
use Rattle.lt_model.specs.Marks.{AreMarks, and_then}
use Rattle.lt_delta.proofs.merging.merged_by_search.Given as goal

abbrev pub invariant-loop-owner : goal.invariant-loop-owner
invariant-loop-owner l = record {
  done : map arc_value l.marks.items ++ and_then (map arc_value l.left) (drop l.owner-index (map arc_value l.second)) ≡ and_then (map arc_value l.first) (map arc_value l.second);
  ascend : AreMarks (map arc_value l.left);
}
