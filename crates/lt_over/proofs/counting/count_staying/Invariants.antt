use Rattle.std.proofs.Common.{◌≡◌, ◌≤◌, length, take}
use Rattle.std.specs.Prelude.{filter}
use Rattle.lt_over.specs.Overlaid.{stays}
use Rattle.lt_over.proofs.counting.count_staying.Given as goal

abbrev pub invariant-loop-row : goal.invariant-loop-row
invariant-loop-row g l = record {
  counted : l.count ≡ length (filter (stays (g.B.RowReads.rows l.base) l.hidden.rows) (take l.row-index l.rows));
  within : l.count ≤ l.row-index;
}
