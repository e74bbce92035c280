use Rattle.std.proofs.Common.{◌-◌, ◌≤◌, ◌<◌, ℕ, length, get_or}
use Rattle.lt_sense.proofs.by_key_cut.place_in.Given as goal

abbrev pub invariant-halves : goal.invariant-halves
invariant-halves l = record {
  order : l.low ≤ l.high;
  within : l.high ≤ length l.keys;
  before : (i : ℕ) → i < l.low → get_or l.keys i 0 < l.bound;
  behind : (i : ℕ) → l.high ≤ i → i < length l.keys → l.bound ≤ get_or l.keys i 0;
}

abbrev pub decreases-halves : goal.decreases-halves
decreases-halves l = l.high - l.low
