use Rattle.std.proofs.Common.{ℕ, List, length, ◌-◌}
use Rattle.std.specs.List.{AllByRecursion}
use Rattle.lt_face.specs.State.{Row}
use Rattle.lt_base.specs.Indexed.{IsIndexed}
use Rattle.lt_base.proofs.relation.age_all.Given as goal

abbrev pub invariant-loop-at : goal.invariant-loop-at
invariant-loop-at l = (width : ℕ) (rows : List Row) → AllByRecursion (IsIndexed width rows) l.fn.others.items → AllByRecursion (IsIndexed width rows) l.others.items

abbrev pub decreases-loop-at : goal.decreases-loop-at
decreases-loop-at l = length l.others.items - l.at
