use Rattle.std.proofs.Common.{◌≡◌, drop}
use Rattle.lt_query.specs.Needs.{has_name}
use Rattle.lt_query.proofs.indexes.has_this.Given as goal

abbrev pub invariant-loop-other : goal.invariant-loop-other
invariant-loop-other l = has_name (drop l.other-index l.names) l.name ≡ has_name l.names l.name
