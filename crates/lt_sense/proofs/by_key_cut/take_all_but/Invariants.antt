use Rattle.std.proofs.Common.{take}
use Rattle.lt_sense.specs.ByKeyTold.{HaveAllBut}
use Rattle.lt_sense.specs.Spans.{IsOfSame, IsSpans, ranges_of, stills}
use Rattle.lt_sense.proofs.by_key_cut.take_all_but.Given as goal

abbrev pub invariant-loop-i : goal.invariant-loop-i
invariant-loop-i l = record {
  sound : IsSpans l.list;
  same : IsOfSame l.fn.list l.list;
  added : HaveAllBut l.keys (ranges_of l.fn.list) (ranges_of l.list) (take l.i (stills l.other));
}
