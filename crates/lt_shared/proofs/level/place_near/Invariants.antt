use Rattle.std.proofs.Common.{◌<◌, ◌-◌, ◌++◌, ◌∷◌, [], length, take}
use Rattle.lt_shared.specs.Entries.{joined, AreAllBelow}
use Rattle.lt_shared.proofs.level.place_near.Given as goal

abbrev pub invariant-loop-stride : goal.invariant-loop-stride
invariant-loop-stride g l =
    record {
      some : 0 < l.stride;
      within : l.low < length l.entries;
      below : AreAllBelow (l.prefix ++ l.bound ∷ []) (joined (joined g.T.Entry.rows) (take l.low l.entries));
    }

abbrev pub decreases-loop-stride : goal.decreases-loop-stride
decreases-loop-stride g l = length l.entries - l.low
