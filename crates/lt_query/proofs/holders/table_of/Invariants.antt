use Rattle.std.proofs.Common.{◌≡◌}
use Rattle.lt_query.specs.Holding.{atoms_below, parts_below}
use Rattle.lt_query.proofs.holders.table_of.Given as goal

abbrev pub invariant-loop-level : goal.invariant-loop-level
invariant-loop-level l = record {
  parts : l.parts.items ≡ parts_below l.guides l.level;
  places : l.places.items ≡ atoms_below l.guides l.level;
}
