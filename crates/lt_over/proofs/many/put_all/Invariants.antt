use Rattle.std.proofs.Common.{◌≡◌, take}
use Rattle.std.specs.Prelude.{fold}
use Rattle.lt_face.specs.Rows.{with_row}
use Rattle.lt_over.proofs.many.put_all.Given as goal

abbrev pub invariant-loop-row : goal.invariant-loop-row
invariant-loop-row g l = record {
  rows : g.S.RowReads.rows l.set ≡ fold with_row (g.S.RowReads.rows l.fn.set) (take l.row-index l.rows);
  width : g.S.RowReads.width_of l.set ≡ g.S.RowReads.width_of l.fn.set;
}
