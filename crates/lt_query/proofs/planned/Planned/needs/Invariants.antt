use Rattle.std.proofs.Common.{◌≡◌, [], map, drop}
use Rattle.std.specs.Arc.{arc_value}
use Rattle.lt_query.specs.Needs.{with_names}
use Rattle.lt_query.proofs.ByShape.{names_by}
use Rattle.lt_query.proofs.planned.Planned.needs.Given as goal

abbrev pub invariant-loop-route : goal.invariant-loop-route
invariant-loop-route l = with_names l.names (names_by (drop l.route-index (map arc_value l.route-items))) ≡ with_names [] (names_by (map arc_value l.route-items))
