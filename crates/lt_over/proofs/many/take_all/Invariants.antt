use Rattle.std.proofs.Common.{◌≡◌, take}
use Rattle.lt_flat.specs.Flat.{kept}
use Rattle.lt_over.proofs.many.take_all.Given as goal

abbrev pub invariant-loop-row : goal.invariant-loop-row
invariant-loop-row g l = record {
  rows : g.S.RowReads.rows l.set ≡ kept (g.S.RowReads.rows l.fn.set) (take l.row-index l.rows);
  width : g.S.RowReads.width_of l.set ≡ g.S.RowReads.width_of l.fn.set;
}
