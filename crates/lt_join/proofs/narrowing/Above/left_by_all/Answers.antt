use Rattle.lt_join.proofs.Bounding.{passes_at}
use Rattle.lt_join.proofs.narrowing.Above.left_by_all.Goals as goal

pub loop-test-preserved : goal.loop-test-preserved
loop-test-preserved c = λ a agrees hold low.
    c.left_by-range.ensures a agrees (passes_at a c.args.tests.now c.loop-test.test-index _ c.loop-test-test.true hold) (c.loop-test.invariant a agrees hold low)
