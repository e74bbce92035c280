use Rattle.std.proofs.Common.{◌≡◌, ◌-◌, ◌≤◌, ◌<◌, ℕ, false, length, Some}
use Rattle.std.specs.Prelude.{slice_get}
use Rattle.lt_sense.specs.declared.covering.KeptGap.{KeptGap}
use Rattle.lt_sense.specs.Sense.{lies_in}
use Rattle.lt_sense.specs.Spans.{stills}
use Rattle.lt_sense.proofs.Sought.{AreDigitsLeft}
use Rattle.lt_sense.proofs.spans.Spans.has_ordered.Given as goal

abbrev pub invariant-halves : goal.invariant-halves
invariant-halves n l = record {
  order : l.low ≤ l.high;
  within : l.high ≤ length l.self.ranges.items;
  before : (p : ℕ) (g : KeptGap) → slice_get (stills l.self) p ≡ Some g → p < l.low → lies_in g.prefix g.lo g.hi l.cells ≡ false;
  after : (p : ℕ) (g : KeptGap) → slice_get (stills l.self) p ≡ Some g → l.high ≤ p → lies_in g.prefix g.lo g.hi l.cells ≡ false;
  digits : AreDigitsLeft (length l.self.ranges.items) l.fn.steps l.steps (l.high - l.low);
}

abbrev pub decreases-halves : goal.decreases-halves
decreases-halves n l = l.high - l.low
