use Rattle.std.proofs.Common.{drop}
use Rattle.lt_model.specs.Bound.{know_all}
use Rattle.lt_check.specs.Binding.{has, Alike}
use Rattle.lt_check.proofs.bound.Bound.add_tests.Given as goal

abbrev pub invariant-loop-test : goal.invariant-loop-test
invariant-loop-test l = Alike (know_all (has l.self) (drop l.test-index l.tests)) (know_all (has l.fn.self) l.tests)
