use Rattle.std.proofs.Common.{◌≤◌, ◌+◌, take}
use Rattle.lt_sense.specs.Gathered.{HaveAll}
use Rattle.lt_sense.specs.Held.{open_count, held}
use Rattle.lt_sense.specs.Spans.{IsOfSame, IsSpans, ranges_of, growing}
use Rattle.lt_sense.proofs.adding.take_above.Given as goal

abbrev pub invariant-loop-i : goal.invariant-loop-i
invariant-loop-i l = record {
  sound : IsSpans l.list;
  same : IsOfSame l.fn.list l.list;
  added : HaveAll (ranges_of l.fn.list) (ranges_of l.list) (take l.i (growing l.other.relation l.other.columns l.other.at 0 l.other.above.items));
  few : held l.list ≤ held l.fn.list + open_count (take l.i l.other.above.items);
}
