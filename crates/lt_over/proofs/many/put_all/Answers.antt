use Rattle.std.proofs.Common.{◌∙◌, ℕ, sym, ap, subst}
use Rattle.lt_face.specs.Rows.{IsRow, with_row}
use Rattle.lt_face.proofs.RowLemmas.{each_at}
use Rattle.lt_over.proofs.OneByOne.{one_put}
use Rattle.lt_over.proofs.many.put_all.Goals as goal

pub insert-requires : goal.insert-requires
insert-requires g c =
    subst (λ (w : ℕ). IsRow w c.copy_row.result) (sym c.loop-row.invariant.width)
    (subst (IsRow (g.S.RowReads.width_of c.args.set.now)) (sym (c.copy_row.ensures ∙ c.row-item.is))
    (each_at (IsRow (g.S.RowReads.width_of c.args.set.now)) c.args.rows.now c.loop-row.row-index c.row-item.result c.requires c.loop-row-test.true))

pub loop-row-preserved : goal.loop-row-preserved
loop-row-preserved g c = record {
  rows = one_put (g.S.RowReads.rows c.args.set.now) (g.S.RowReads.rows c.loop-row.set) (g.S.RowReads.rows c.insert.new.self) c.args.rows.now c.loop-row.row-index c.row-item.result c.loop-row-test.true c.row-item.is c.loop-row.invariant.rows
      (c.in_ok-insert.ensures.ok ∙ ap (with_row (g.S.RowReads.rows c.loop-row.set)) c.copy_row.ensures);
  width = c.in_ok-insert.ensures.width ∙ c.loop-row.invariant.width;
}
