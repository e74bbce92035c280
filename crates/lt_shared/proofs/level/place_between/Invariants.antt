use Rattle.std.proofs.Common.{◌<◌, ◌≤◌, ◌-◌, ◌++◌, ◌∷◌, [], length, take, drop}
use Rattle.lt_shared.specs.Entries.{joined, AreAllBelow, AreNoneBelow}
use Rattle.lt_shared.proofs.level.place_between.Given as goal

abbrev pub invariant-loop-high : goal.invariant-loop-high
invariant-loop-high g l =
    record {
      order : l.low < l.high;
      within : l.high ≤ length l.entries;
      before : AreAllBelow (l.prefix ++ l.bound ∷ []) (joined (joined g.T.Entry.rows) (take l.low l.entries));
      after : AreNoneBelow (l.prefix ++ l.bound ∷ []) (joined (joined g.T.Entry.rows) (drop l.high l.entries));
    }

abbrev pub decreases-loop-high : goal.decreases-loop-high
decreases-loop-high g l = l.high - l.low
