use Rattle.std.proofs.Common.{◌≡◌, take}
use Rattle.std.specs.List.{AllByRecursion}
use Rattle.lt_join.proofs.mending_join.may_be.Given as goal

abbrev pub invariant-loop-pin : goal.invariant-loop-pin
invariant-loop-pin l = AllByRecursion (λ pin. pin ≡ l.key) (take l.pin-index l.level.pins)
