use Rattle.std.proofs.Common.{◌≡◌, drop}
use Rattle.lt_query.specs.Needs.{has_name, index_of}
use Rattle.lt_query.proofs.indexes.has_name.Given as goal

abbrev pub invariant-loop-name : goal.invariant-loop-name
invariant-loop-name l = has_name (drop l.name-index l.names) (index_of l.guide) ≡ has_name l.names (index_of l.guide)
