use Rattle.std.proofs.Common.{◌<◌, length, subst, sym, arith}
use Rattle.std.specs.List.{AllByRecursion}
use Rattle.lt_sense.specs.Spans.{IsSpans}
use Rattle.lt_sense.proofs.ByKeyCut.{cut_next}
use Rattle.lt_sense.proofs.Sorted.{all_push}
use Rattle.lt_sense.proofs.by_key_cut.cut_lists.Goals as goal

pub loop-i-preserved : goal.loop-i-preserved
loop-i-preserved c =
    let lists = c.args.lists.now.items in
    let lt : c.loop-i.i < length lists = omega (arith, c.loop-i-test.true, c.len-i-end.ensures) in
    record {
      sound = subst (AllByRecursion IsSpans) (sym c.in_ok-push.ensures.items) (all_push IsSpans c.loop-i.left.items c.in_ok-list.list c.loop-i.invariant.sound c.in_ok-list.ensures.sound);
      left = cut_next c.args.keys.now lists c.loop-i.i c.index.result.now c.in_ok-list.list c.loop-i.left.items c.push.new.self.items lt c.index.ensures c.in_ok-push.ensures.items c.loop-i.invariant.left c.in_ok-list.ensures.left;
    }
