use Rattle.std.proofs.Common.{◌≡◌, ℕ, ◌<◌, ◌≤◌, ◌-◌, true, false, length, get_or, [], is_some}
use Rattle.lt_trie.specs.Under.{next_cell}
use Rattle.lt_trie.proofs.run.count_before.Given as goal

abbrev pub invariant-loop-low : goal.invariant-loop-low
invariant-loop-low l =
    record {
      order : l.low ≤ l.high;
      within : l.high ≤ length l.run;
      under : (i : ℕ) → i < l.low → is_some (next_cell l.prefix (get_or l.run i [])) ≡ true;
      others : (i : ℕ) → l.high ≤ i → i < length l.run → is_some (next_cell l.prefix (get_or l.run i [])) ≡ false;
    }

abbrev pub decreases-loop-low : goal.decreases-loop-low
decreases-loop-low l = l.high - l.low
