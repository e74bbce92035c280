use Rattle.std.proofs.Common.{◌≡◌, ◌≤◌}
use Rattle.lt_sense.specs.Held.{held}
use Rattle.lt_sense.specs.Spans.{HaveSameRows, ranges_of, IsSpans, IsOfSame}
use Rattle.lt_sense.proofs.spans.Spans.settle.Given as goal

abbrev pub invariant-loop-depth : goal.invariant-loop-depth
invariant-loop-depth l = record {
  sound : IsSpans l.self;
  same : IsOfSame l.fn.self l.self;
  at : l.self.at ≡ l.fn.self.at;
  lo : l.self.lo ≡ l.fn.self.lo;
  hi : l.self.hi ≡ l.fn.self.hi;
  rows : HaveSameRows (ranges_of l.self) (ranges_of l.fn.self);
  few : held l.self ≤ held l.fn.self;
}
