use Rattle.std.proofs.Common.{arith, ◌∙◌}
use Rattle.std.specs.Ordering.{nat_cmp}
use Rattle.std.proofs.cmp.SliceLoops.{ended}
use Rattle.lt_face.proofs.cells.order.Goals as goal

pub returns : goal.returns
returns c =
    let inv = c.loop-i.invariant in
    let m = inv.0 in
    let p = inv.1 in
    let q = c.loop-i-test.false in
    ended c.args.a.now c.args.b.now c.loop-i.i c.cmp-2.result (omega (arith, c.loop-i.auto.i-end)) c.cmp-2.ensures nat_cmp ∙ inv.2
