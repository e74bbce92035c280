use Rattle.std.proofs.Common.{◌≤◌, ◌+◌, take}
use Rattle.lt_sense.specs.Gathered.{HaveAll}
use Rattle.lt_sense.specs.Held.{held}
use Rattle.lt_sense.specs.Spans.{IsOfSame, IsSpans, ranges_of, stills}
use Rattle.lt_sense.proofs.adding.take_still.Given as goal

abbrev pub invariant-loop-i : goal.invariant-loop-i
invariant-loop-i l = record {
  sound : IsSpans l.list;
  same : IsOfSame l.fn.list l.list;
  added : HaveAll (ranges_of l.fn.list) (ranges_of l.list) (take l.i (stills l.other));
  few : held l.list ≤ held l.fn.list + l.i;
}
