use Rattle.std.proofs.Common.{◌≡◌}
use Rattle.lt_query.specs.Lists.{below}
use Rattle.lt_query.proofs.indexes.own_columns.Given as goal

abbrev pub invariant-loop-column : goal.invariant-loop-column
invariant-loop-column l = l.columns ≡ below l.column
