use Rattle.std.proofs.Common.{◌<◌, ◌≤◌, length, take, ap, ◌∙◌, arith}
use Rattle.lt_sense.specs.Held.{open_count}
use Rattle.lt_sense.specs.Spans.{ranges_of}
use Rattle.lt_sense.proofs.Added.{above_added, above_whole}
use Rattle.lt_sense.proofs.ByKeyAdded.{of_same_chain}
use Rattle.lt_sense.proofs.Costs.{open_next}
use Rattle.lt_sense.proofs.Lies.{take_next, take_whole}
use Rattle.lt_sense.proofs.adding.take_above.Goals as goal

pub loop-i-preserved : goal.loop-i-preserved
loop-i-preserved c =
    let s = c.args.other.now in
    let lt : c.loop-i.i < length s.above.items = omega (arith, c.loop-i-test.true, c.len-i-end.ensures) in
    record {
      sound = c.in_ok-take_range.ensures.sound;
      same = of_same_chain c.args.list.now c.loop-i.list c.take_range.new.list c.loop-i.invariant.same c.in_ok-take_range.ensures.same;
      added = above_added s c.loop-i.i c.index-gap.result.now (take c.loop-i.i c.cells.result.now) (ranges_of c.args.list.now) (ranges_of c.loop-i.list) (ranges_of c.take_range.new.list) lt c.index-gap.ensures
          (ap (take c.loop-i.i) c.cells.ensures.cells) c.loop-i.invariant.added c.in_ok-take_range.ensures.added;
      few = (let a = c.loop-i.invariant.few in let b = c.in_ok-take_range.ensures.few in let e = ap open_count (take_next s.above.items c.loop-i.i c.index-gap.result.now lt c.index-gap.ensures) ∙ open_next (take c.loop-i.i s.above.items) c.index-gap.result.now in omega (arith, a, b, e));
    }

pub returns-clause-added : goal.returns-clause-added
returns-clause-added c =
    let s = c.args.other.now in
    let le : length s.above.items ≤ c.loop-i.i = omega (arith, c.loop-i-test.false, c.len-i-end.ensures) in
    above_whole s c.loop-i.i (ranges_of c.args.list.now) (ranges_of c.loop-i.list) le c.loop-i.invariant.added

pub returns-clause-few : goal.returns-clause-few
returns-clause-few c =
    let s = c.args.other.now in
    let e = ap open_count (take_whole s.above.items c.loop-i.i (omega (arith, c.loop-i-test.false, c.len-i-end.ensures))) in
    let a = c.loop-i.invariant.few in
    omega (arith, a, e)
