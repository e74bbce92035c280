use Rattle.std.proofs.Common.{◌∙◌, sym, arith}
use Rattle.lt_base.proofs.OwnOrder.{not_long, own_step, own_differs}
use Rattle.lt_base.proofs.columns.is_own_order.Goals as goal

pub returns-then-columns-width : goal.returns-then-columns-width
returns-then-columns-width c = sym (not_long c.args.columns.now c.args.width c.if-columns-width.true)

pub returns-then-columns-i : goal.returns-then-columns-i
returns-then-columns-i c = sym (c.loop-i.invariant ∙ own_differs c.args.columns.now c.args.width c.loop-i.i c.if-columns-width.false (omega arith) c.if-columns-i.true)

pub loop-i-preserved : goal.loop-i-preserved
loop-i-preserved c = c.loop-i.invariant ∙ own_step c.args.columns.now c.args.width c.loop-i.i c.if-columns-width.false (omega arith) c.if-columns-i.false
