use Rattle.std.proofs.Common.{◌≡◌, take}
use Rattle.lt_join.specs.MendedPlan.{pinned_levels}
use Rattle.lt_join.proofs.mending_copy.pin_levels.Given as goal

abbrev pub invariant-loop-i : goal.invariant-loop-i
invariant-loop-i l = l.copy ≡ pinned_levels l.key (take l.i l.levels)
