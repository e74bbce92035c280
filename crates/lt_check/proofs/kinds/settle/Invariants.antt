use Rattle.std.proofs.Common.{◌≡◌, true, length}
use Rattle.lt_model.specs.Check.{Choice}
use Rattle.lt_check.specs.Narrowing.{Admits, all_fit, unknowns}
use Rattle.lt_check.specs.Seen.{seen}
use Rattle.lt_check.proofs.kinds.settle.Given as goal

-- no choice that fits is lost
abbrev pub invariant-loop : goal.invariant-loop
invariant-loop l =
    (length l.known ≡ length l.names)
    × ((choice : Choice) → length choice ≡ length l.names → all_fit l.schema l.names (seen l.atoms) l.body choice ≡ true → Admits l.known choice)

abbrev pub decreases-loop : goal.decreases-loop
decreases-loop l = unknowns l.known
