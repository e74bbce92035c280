use Rattle.std.proofs.Common.{◌≡◌, true, length}
use Rattle.std.specs.Prelude.{filter}
use Rattle.std.specs.Ordering.{is_lt}
use Rattle.lt_face.specs.Rows.{row_cmp, has_row, first_above}
use Rattle.lt_flat.specs.Flat.{kept}
use Rattle.lt_over.proofs.search.least_above.Given as goal

abbrev pub invariant-loop-more : goal.invariant-loop-more
invariant-loop-more g l = record {
  there : has_row (g.B.RowReads.rows l.base) l.from ≡ true;
  same : first_above (kept (g.B.RowReads.rows l.base) l.layer.gone) l.fn.row ≡ first_above (kept (g.B.RowReads.rows l.base) l.layer.gone) l.from;
}

abbrev pub decreases-loop-more : goal.decreases-loop-more
decreases-loop-more g l = length (filter (λ s. is_lt (row_cmp l.from s)) (g.B.RowReads.rows l.base))
