use Rattle.std.proofs.Common.{◌≡◌, ◌*◌, ◌^◌, take, drop}
use Rattle.std.specs.Prelude.{pos, ◌+ℤ◌, ◌≤ℤ◌}
use Rattle.lt_gen.specs.Summaries.{column_sum}
use Rattle.lt_gen.proofs.sums.set_sum.Given as goal

abbrev pub invariant-rows : goal.invariant-rows
invariant-rows g l = record {
  sum : l.sum ≡ column_sum l.column (take l._place (g.R.RowReads.rows l.rows));
  least : pos 0 ≤ℤ (l.sum +ℤ pos (2 ^ 63 * l._place));
  most : l.sum ≤ℤ pos (2 ^ 63 * l._place);
  left : l.walk ≡ drop l._place (g.R.RowReads.rows l.rows);
}
