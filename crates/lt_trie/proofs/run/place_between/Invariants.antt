use Rattle.std.proofs.Common.{ℕ, ◌<◌, ◌≤◌, ◌-◌, length}
use Rattle.lt_trie.specs.Stand.{cell_at}
use Rattle.lt_trie.proofs.run.place_between.Given as goal

abbrev pub invariant-loop-low : goal.invariant-loop-low
invariant-loop-low l =
    record {
      order : l.low ≤ l.high;
      within : l.high ≤ length l.run;
      below : (i : ℕ) → i < l.low → cell_at l.run i l.column < l.bound;
      above : (i : ℕ) → l.high ≤ i → i < length l.run → l.bound ≤ cell_at l.run i l.column;
    }

abbrev pub decreases-loop-low : goal.decreases-loop-low
decreases-loop-low l = l.high - l.low
