use Rattle.lt_check.proofs.Binding.{Alike_test}
use Rattle.lt_check.proofs.bound.Bound.add_tests.Goals as goal

pub loop-test-preserved : goal.loop-test-preserved
loop-test-preserved c = Alike_test _ _ _ _ _ _ c.loop-test-test.true c.loop-test.invariant c.in_ok-add_test.ensures
