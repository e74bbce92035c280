use Rattle.std.proofs.Common.{◌≡◌, ◌++◌}
use Rattle.std.specs.Prelude.{◌==◌, slice_index}
use Rattle.std.specs.List.{filter}
use Rattle.lt_query.specs.Lists.{below}
use Rattle.lt_query.proofs.guides.add_columns_at.Given as goal

abbrev pub invariant-loop-column : goal.invariant-loop-column
invariant-loop-column l = l.columns ≡ l.fn.columns ++ filter (λ c. slice_index l.levels c == l.level) (below l.column)
