use Rattle.std.proofs.Common.{rules, get_or, ◌≡◌, ◌+◌, ◌-◌, ◌++◌, take, drop, slice_index, subst, length-set, ◌∙◌, arith}
use Rattle.lt_leap.proofs.Shifted.{shifted, closed, get_any}
use Rattle.lt_leap.proofs.ring.put_last.Goals as goal

pub loop-i-preserved : goal.loop-i-preserved
loop-i-preserved c =
    let ring = c.loop-i.ring.items in
    let inv = c.loop-i.invariant in
    let at : c.index.result.now ≡ get_or ring (c.loop-i.i + 1) c.index.result.now = search rules in
    let value = get_any ring (c.loop-i.i + 1) c.index.result.now (omega (arith, inv.long, c.loop-i-test.true, c.len-last.ensures)) at in
    record {
      long = length-set ring c.loop-i.i c.index.result.now ∙ inv.long;
      moved = shifted c.args.ring.now.items ring c.loop-i.i c.index.result.now (omega (arith, inv.long, c.loop-i-test.true, c.len-last.ensures)) inv.moved value;
    }

pub returns : goal.returns
returns c =
    let xs = c.args.ring.now.items in
    let ring = c.loop-i.ring.items in
    let last = c.len-last.result - 1 in
    let value : c.index-first.result.now ≡ slice_index xs 0 = search rules in
    let at : c.loop-i.i ≡ last = omega (arith, c.loop-i-test.false, c.loop-i.auto.i-end) in
    closed xs ring last c.index-first.result.now (omega (arith, c.len-last.ensures, c.requires)) (subst (λ i. ring ≡ take i (drop 1 xs) ++ drop i xs) at c.loop-i.invariant.moved) value
