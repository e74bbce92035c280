use Rattle.std.proofs.Common.{ℕ, ◌<◌, ◌≤◌, ◌-◌, length}
use Rattle.lt_trie.specs.Stand.{cell_at}
use Rattle.lt_trie.proofs.run.place_behind.Given as goal

abbrev pub invariant-loop-stride : goal.invariant-loop-stride
invariant-loop-stride l =
    record {
      some : 0 < l.stride;
      behind : l.at < l.low;
      within : l.low ≤ length l.run;
      below : (i : ℕ) → i < l.low → cell_at l.run i l.column < l.bound;
    }

abbrev pub decreases-loop-stride : goal.decreases-loop-stride
decreases-loop-stride l = length l.run - l.low
