use Rattle.std.proofs.Common.{◌≡◌, take}
use Rattle.lt_delta.specs.Laying.{rows_laid}
use Rattle.lt_delta.proofs.laying.laid_on.Given as goal

abbrev pub invariant-loop-i : goal.invariant-loop-i
invariant-loop-i g l = record {
  rows : g.R.RowReads.rows l.set ≡ rows_laid l.relation (g.R.RowReads.rows l.rows) (take l.i l.marks);
  width : g.R.RowReads.width_of l.set ≡ g.R.RowReads.width_of l.rows;
}
