use Rattle.std.proofs.Common.{◌≡◌, ◌≤◌, ◌+◌, ◌-◌, length, take}
use Rattle.lt_sense.specs.Held.{held}
use Rattle.lt_sense.specs.Spans.{HaveSameRows, ranges_of, IsSpans, IsOfSame}
use Rattle.lt_sense.proofs.spans.Spans.rise_to.Given as goal

abbrev pub invariant-loop : goal.invariant-loop
invariant-loop l = record {
  sound : IsSpans l.self;
  same : IsOfSame l.fn.self l.self;
  at : l.self.at ≡ take (length l.fn.self.at + l.depth - l.counter) l.fn.self.at;
  from : l.depth ≤ l.counter;
  rows : HaveSameRows (ranges_of l.self) (ranges_of l.fn.self);
  few : held l.self ≤ held l.fn.self;
}
