use Rattle.std.proofs.Common.{sym, ◌∙◌, arith}
use Rattle.lt_sense.proofs.United.{ends_tied, ends_less, ends_greater, other_less, other_greater, ended_less, ended_greater, ends_alone}
use Rattle.lt_sense.proofs.sorting.compare_ends.Goals as goal

pub returns-then-cell-b : goal.returns-then-cell-b
returns-then-cell-b c = sym (c.loop-i.invariant.same ∙ other_less c.args.one.now c.args.other.now c.args.a c.args.b c.loop-i.i (omega (arith, c.loop-i-test.true)) (omega (arith, c.if-i-other.true)) c.if-cell-b.true)

pub returns-then-i-other : goal.returns-then-i-other
returns-then-i-other c = sym (c.loop-i.invariant.same ∙ other_greater c.args.one.now c.args.other.now c.args.a c.args.b c.loop-i.i (omega (arith, c.loop-i-test.true)) (omega (arith, c.if-i-other.true)) (omega (arith, c.if-cell-b.false)))

pub returns-then-cell-other : goal.returns-then-cell-other
returns-then-cell-other c = sym (c.loop-i.invariant.same ∙ ends_less c.args.one.now c.args.other.now c.args.a c.args.b c.loop-i.i (omega (arith, c.loop-i-test.true)) (omega (arith, c.if-i-other.false)) c.if-cell-other.true)

pub returns-then-other-i : goal.returns-then-other-i
returns-then-other-i c = sym (c.loop-i.invariant.same ∙ ends_greater c.args.one.now c.args.other.now c.args.a c.args.b c.loop-i.i (omega (arith, c.loop-i-test.true)) (omega (arith, c.if-i-other.false)) c.if-other-i.true)

pub loop-i-preserved : goal.loop-i-preserved
loop-i-preserved c = record {
  same = c.loop-i.invariant.same ∙ ends_tied c.args.one.now c.args.other.now c.args.a c.args.b c.loop-i.i (omega (arith, c.loop-i-test.true)) (omega (arith, c.if-i-other.false)) (omega (arith, c.if-cell-other.false, c.if-other-i.false));
  within = omega (arith, c.if-i-other.false);
}

pub returns-then-other-one : goal.returns-then-other-one
returns-then-other-one c = sym (c.loop-i.invariant.same ∙ ended_greater c.args.one.now c.args.other.now c.args.a c.args.b c.loop-i.i (omega (arith, c.loop-i-test.false)) (omega (arith, c.loop-i.auto.i-end)) (omega (arith, c.if-one-other.true)) c.if-other-one.true)

pub returns-then-one-other : goal.returns-then-one-other
returns-then-one-other c = sym (c.loop-i.invariant.same ∙ ended_less c.args.one.now c.args.other.now c.args.a c.args.b c.loop-i.i (omega (arith, c.loop-i-test.false)) (omega (arith, c.loop-i.auto.i-end)) (omega (arith, c.if-one-other.true)) (omega (arith, c.if-other-one.false)))

pub returns : goal.returns
returns c = c.cmp.ensures ∙ sym (c.loop-i.invariant.same ∙ ends_alone c.args.one.now c.args.other.now c.args.a c.args.b c.loop-i.i (omega (arith, c.loop-i-test.false)) (omega (arith, c.loop-i-test.false, c.if-one-other.false)))
