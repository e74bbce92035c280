use Rattle.std.proofs.Common.{◌≡◌, length, take}
use Rattle.std.specs.List.{AllByRecursion}
use Rattle.lt_sense.specs.ByKeyTold.{TellSame}
use Rattle.lt_sense.specs.Done.{IsDone}
use Rattle.lt_sense.specs.Gathered.{ranges_in}
use Rattle.lt_sense.specs.Spans.{IsSpans}
use Rattle.lt_sense.proofs.by_key_lists.finish_keyed.Given as goal

abbrev pub invariant-loop-at : goal.invariant-loop-at
invariant-loop-at l = record {
  long : length l.lists.items ≡ length l.fn.lists.items;
  sound : AllByRecursion IsSpans l.lists.items;
  rows : TellSame (ranges_in l.lists.items) (ranges_in l.fn.lists.items);
  done : AllByRecursion IsDone (take l.at l.lists.items);
}
