use Rattle.std.proofs.Common.{◌≡◌, drop, map}
use Rattle.lt_query.specs.Needs.{with_names, first_index}
use Rattle.lt_query.proofs.indexes.add_firsts_of.Given as goal

abbrev pub invariant-loop-atom : goal.invariant-loop-atom
invariant-loop-atom l = with_names l.names (map first_index (drop l.atom-index l.absents)) ≡ with_names l.fn.names (map first_index l.absents)
