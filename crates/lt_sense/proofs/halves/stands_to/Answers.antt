use Rattle.std.proofs.Common.{sym, ◌∙◌, arith}
use Rattle.lt_sense.proofs.Halved.{stands_tied, stands_less, stands_greater, stands_short, last_above, last_here, last_below}
use Rattle.lt_sense.proofs.halves.stands_to.Goals as goal

pub returns-then-i-cells : goal.returns-then-i-cells
returns-then-i-cells c = sym (c.loop-i.invariant ∙ stands_short c.args.prefix.now c.args.cells.now c.args.lo c.args.hi c.loop-i.i (omega (arith, c.if-i-cells.true)))

pub returns-then-prefix-i : goal.returns-then-prefix-i
returns-then-prefix-i c = sym (c.loop-i.invariant ∙ stands_less c.args.prefix.now c.args.cells.now c.args.lo c.args.hi c.loop-i.i (omega (arith, c.loop-i-test.true)) (omega (arith, c.if-i-cells.false)) c.if-prefix-i.true)

pub returns-then-cell-prefix : goal.returns-then-cell-prefix
returns-then-cell-prefix c = sym (c.loop-i.invariant ∙ stands_greater c.args.prefix.now c.args.cells.now c.args.lo c.args.hi c.loop-i.i (omega (arith, c.loop-i-test.true)) (omega (arith, c.if-i-cells.false)) c.if-cell-prefix.true)

pub loop-i-preserved : goal.loop-i-preserved
loop-i-preserved c = c.loop-i.invariant ∙ stands_tied c.args.prefix.now c.args.cells.now c.args.lo c.args.hi c.loop-i.i (omega (arith, c.loop-i-test.true)) (omega (arith, c.if-i-cells.false)) (omega (arith, c.if-prefix-i.false, c.if-cell-prefix.false))

pub returns-then-cells-prefix : goal.returns-then-cells-prefix
returns-then-cells-prefix c = sym (c.loop-i.invariant ∙ stands_short c.args.prefix.now c.args.cells.now c.args.lo c.args.hi c.loop-i.i (omega (arith, c.loop-i-test.false, c.if-cells-prefix.true)))

pub returns-then-next-lo : goal.returns-then-next-lo
returns-then-next-lo c = sym (c.loop-i.invariant ∙ last_above c.args.prefix.now c.args.cells.now c.args.lo c.args.hi c.loop-i.i (omega (arith, c.loop-i-test.false)) (omega (arith, c.loop-i.auto.i-end)) (omega (arith, c.if-cells-prefix.false)) c.if-next-lo.true)

pub returns-then-next-hi : goal.returns-then-next-hi
returns-then-next-hi c = sym (c.loop-i.invariant ∙ last_here c.args.prefix.now c.args.cells.now c.args.lo c.args.hi c.loop-i.i (omega (arith, c.loop-i-test.false)) (omega (arith, c.loop-i.auto.i-end)) (omega (arith, c.if-cells-prefix.false)) (omega (arith, c.if-next-lo.false)) c.if-next-hi.true)

pub returns : goal.returns
returns c = sym (c.loop-i.invariant ∙ last_below c.args.prefix.now c.args.cells.now c.args.lo c.args.hi c.loop-i.i (omega (arith, c.loop-i-test.false)) (omega (arith, c.loop-i.auto.i-end)) (omega (arith, c.if-cells-prefix.false)) (omega (arith, c.if-next-lo.false)) (omega (arith, c.if-next-hi.false)))
