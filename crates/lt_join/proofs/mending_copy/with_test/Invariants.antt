use Rattle.std.proofs.Common.{◌≡◌, ◌∷◌, take}
use Rattle.lt_join.proofs.mending_copy.with_test.Given as goal

abbrev pub invariant-loop-other : goal.invariant-loop-other
invariant-loop-other l = l.all ≡ l.fn.test ∷ take l.other-index l.tests
