use Rattle.std.proofs.Common.{◌≡◌, ◌≤◌, take}
use Rattle.lt_sense.specs.Held.{held}
use Rattle.lt_sense.specs.Spans.{HaveSameRows, ranges_of, IsSpans, IsOfSame}
use Rattle.lt_sense.proofs.spans.Spans.sink_to.Given as goal

abbrev pub invariant-loop-i : goal.invariant-loop-i
invariant-loop-i l = record {
  sound : IsSpans l.self;
  same : IsOfSame l.fn.self l.self;
  at : l.self.at ≡ take l.i l.prefix;
  rows : HaveSameRows (ranges_of l.self) (ranges_of l.fn.self);
  few : held l.self ≤ held l.fn.self;
}
