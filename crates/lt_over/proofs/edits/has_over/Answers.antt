use Rattle.lt_over.proofs.Overlays.{told_put, told_base, told_off}
use Rattle.lt_over.proofs.edits.has_over.Goals as goal

pub returns-then-puts : goal.returns-then-puts
returns-then-puts g c = told_put (g.B.RowReads.rows c.args.base.now) c.args.layer.now.gone c.args.layer.now.come c.args.row.now c.puts.result c.puts.ensures c.if-puts.true

pub returns-then-has : goal.returns-then-has
returns-then-has g c =
    told_base (g.B.RowReads.rows c.args.base.now) c.args.layer.now.gone c.args.layer.now.come c.args.row.now c.puts.result c.has.result c.takes.result c.puts.ensures c.if-puts.false
    c.has.ensures c.if-has.true c.takes.ensures

pub returns-else-has : goal.returns-else-has
returns-else-has g c =
    told_off (g.B.RowReads.rows c.args.base.now) c.args.layer.now.gone c.args.layer.now.come c.args.row.now c.puts.result c.has.result c.puts.ensures c.if-puts.false c.has.ensures c.if-has.false
