use Rattle.std.proofs.Common.{◌≤◌, ◌-◌, ◌++◌, ◌∷◌, [], length}
use Rattle.lt_flat.specs.Flat.{AreBelow, AreNotBelow}
use Rattle.lt_flat.proofs.list.place_between.Given as goal

abbrev pub invariant-loop-low : goal.invariant-loop-low
invariant-loop-low l =
    record {
      order : l.low ≤ l.high;
      within : l.high ≤ length l.rows;
      below : AreBelow l.rows (l.prefix ++ l.bound ∷ []) l.low;
      above : AreNotBelow l.rows (l.prefix ++ l.bound ∷ []) l.high;
    }

abbrev pub decreases-loop-low : goal.decreases-loop-low
decreases-loop-low l = l.high - l.low
