use Rattle.std.proofs.Common.{◌<◌, length, take, ap, arith}
use Rattle.lt_sense.specs.declared.covering.KeptGap.{KeptGap}
use Rattle.lt_sense.specs.ByKeyTold.{AllBegin}
use Rattle.lt_sense.proofs.ByKeyTaken.{above_next, above_all}
use Rattle.lt_sense.proofs.by_key_taking.are_above_under.Goals as goal

pub loop-i-preserved : goal.loop-i-preserved
loop-i-preserved c =
    let s = c.args.list.now in
    let lt : c.loop-i.i < length s.above.items = omega (arith, c.loop-i-test.true, c.len-i-end.ensures) in
    above_next (λ (range : KeptGap). AllBegin c.args.key range.prefix range.lo range.hi) s c.loop-i.i c.index-gap.result.now (take c.loop-i.i c.cells.result.now) lt c.index-gap.ensures
    (ap (take c.loop-i.i) c.cells.ensures.cells) c.loop-i.invariant (c.is_under.ensures c.if-not-is_under.false)

pub returns : goal.returns
returns c _ = above_all (λ (range : KeptGap). AllBegin c.args.key range.prefix range.lo range.hi) c.args.list.now c.loop-i.i (omega (arith, c.loop-i-test.false, c.len-i-end.ensures)) c.loop-i.invariant
