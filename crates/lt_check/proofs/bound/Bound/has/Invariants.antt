use Rattle.std.proofs.Common.{◌≡◌, drop}
use Rattle.lt_check.specs.Binding.{has}
use Rattle.lt_check.proofs.bound.Bound.has.Given as goal

abbrev pub invariant-loop-known : goal.invariant-loop-known
invariant-loop-known l = has (drop l.known-index l.known-items) l.place ≡ has l.known-items l.place
