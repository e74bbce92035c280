use Rattle.std.proofs.Common.{◌≡◌, drop, map}
use Rattle.lt_query.specs.Needs.{with_names, index_of}
use Rattle.lt_query.proofs.indexes.add_names.Given as goal

abbrev pub invariant-loop-guide : goal.invariant-loop-guide
invariant-loop-guide l = with_names l.names (map index_of (drop l.guide-index l.guides)) ≡ with_names l.fn.names (map index_of l.guides)
