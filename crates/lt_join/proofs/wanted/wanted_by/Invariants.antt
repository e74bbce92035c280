use Rattle.std.specs.Prelude.{◌≡◌, ◌≤◌, ◌⊎◌, length, take}
use Rattle.lt_join.specs.Way.{AreDecidedBy}
use Rattle.lt_join.proofs.wanted.wanted_by.Given as goal

abbrev pub invariant-loop-term : goal.invariant-loop-term
invariant-loop-term l = (l.wanted ≤ length l.levels) × ((l.wanted ≡ length l.levels) ⊎ AreDecidedBy l.levels l.wanted (take l.term-index l.terms))
