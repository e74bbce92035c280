use Rattle.std.proofs.Common.{◌≡◌, ◌++◌, length, map}
use Rattle.std.specs.List.{AllByRecursion}
use Rattle.lt_face.specs.Rows.{IsRow}
use Rattle.lt_face.specs.State.{permuted}
use Rattle.lt_base.proofs.walk.permuted_rows.Given as goal

abbrev pub invariant-loop-row : goal.invariant-loop-row
invariant-loop-row g l = record {
  done : l.list.items ++ map (permuted l.columns) l.walk ≡ map (permuted l.columns) (g.R.RowReads.rows l.rows);
  each : AllByRecursion (IsRow (g.R.RowReads.width_of l.rows)) l.walk;
}

abbrev pub decreases-loop-row : goal.decreases-loop-row
decreases-loop-row g l = length l.walk
