use Rattle.std.proofs.Common.{take}
use Rattle.std.specs.List.{AllByRecursion}
use Rattle.lt_sense.specs.ByKeyTold.{TellBut}
use Rattle.lt_sense.specs.Gathered.{ranges_in}
use Rattle.lt_sense.specs.Spans.{IsSpans}
use Rattle.lt_sense.proofs.by_key_cut.cut_lists.Given as goal

abbrev pub invariant-loop-i : goal.invariant-loop-i
invariant-loop-i l = record {
  sound : AllByRecursion IsSpans l.left.items;
  left : TellBut l.keys (ranges_in (take l.i l.lists.items)) (ranges_in l.left.items);
}
