use Rattle.std.proofs.Common.{◌≤◌, ◌+◌, take}
use Rattle.std.specs.List.{AllByRecursion}
use Rattle.lt_sense.specs.ByKeyTold.{TellAll}
use Rattle.lt_sense.specs.Gathered.{ranges_in, HaveAll}
use Rattle.lt_sense.specs.Held.{held_in, indexes, AreMoreIndexes}
use Rattle.lt_sense.specs.Spans.{IsSpans}
use Rattle.lt_sense.proofs.adding.add_lists.Given as goal

abbrev pub invariant-loop-i : goal.invariant-loop-i
invariant-loop-i l = record {
  sound : AllByRecursion IsSpans l.lists.items;
  added : HaveAll (ranges_in l.fn.lists.items) (ranges_in l.lists.items) (ranges_in (take l.i l.others.items));
  told : TellAll (ranges_in l.fn.lists.items) (ranges_in l.lists.items) (ranges_in (take l.i l.others.items));
  came : AreMoreIndexes (indexes l.fn.lists.items) (indexes l.lists.items) (indexes (take l.i l.others.items));
  few : held_in l.lists.items ≤ held_in l.fn.lists.items + held_in (take l.i l.others.items);
}
