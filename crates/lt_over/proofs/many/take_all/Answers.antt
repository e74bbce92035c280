use Rattle.std.proofs.Common.{◌∙◌, refl, sym}
use Rattle.lt_over.proofs.OneByOne.{kept_bare, one_taken}
use Rattle.lt_over.proofs.many.take_all.Goals as goal

pub loop-row-init : goal.loop-row-init
loop-row-init g c = record { rows = sym (kept_bare (g.S.RowReads.rows c.args.set.now)); width = refl }

pub loop-row-preserved : goal.loop-row-preserved
loop-row-preserved g c = record {
  rows = one_taken (g.S.RowReads.rows c.args.set.now) (g.S.RowReads.rows c.loop-row.set) (g.S.RowReads.rows c.remove.new.self) c.args.rows.now c.loop-row.row-index c.row-item.result c.loop-row-test.true c.row-item.is c.loop-row.invariant.rows c.in_ok-remove.ensures.ok;
  width = c.in_ok-remove.ensures.width ∙ c.loop-row.invariant.width;
}
