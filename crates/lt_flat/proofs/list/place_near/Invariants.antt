use Rattle.std.proofs.Common.{◌≤◌, ◌<◌, ◌-◌, ◌++◌, ◌∷◌, [], length}
use Rattle.lt_flat.specs.Flat.{AreBelow}
use Rattle.lt_flat.proofs.list.place_near.Given as goal

abbrev pub invariant-loop-stride : goal.invariant-loop-stride
invariant-loop-stride l =
    record {
      some : 0 < l.stride;
      within : l.low ≤ length l.rows;
      below : AreBelow l.rows (l.prefix ++ l.bound ∷ []) l.low;
    }

abbrev pub decreases-loop-stride : goal.decreases-loop-stride
decreases-loop-stride l = length l.rows - l.low
