use Rattle.std.proofs.Common.{◌≡◌, ◌≤◌, length, take, not}
use Rattle.std.specs.Prelude.{filter}
use Rattle.lt_face.specs.Rows.{has_row}
use Rattle.lt_over.proofs.counting.count_lacked.Given as goal

abbrev pub invariant-loop-row : goal.invariant-loop-row
invariant-loop-row g l = record {
  counted : l.count ≡ length (filter (λ r. not (has_row (g.B.RowReads.rows l.base) r)) (take l.row-index l.rows));
  within : l.count ≤ l.row-index;
}
