use Rattle.lt_check.proofs.Narrowing.{Narrows_literal}
use Rattle.lt_check.proofs.kinds.Known.learn_literals.Goals as goal

pub loop-literal-preserved : goal.loop-literal-preserved
loop-literal-preserved c =
    rw c.and-told.ensures
    (Narrows_literal c.args.names.now c.args.body.now c.loop-literal.literal-index c.literal-item.result _ _ _ _ _ c.loop-literal-test.true c.literal-item.is c.loop-literal.invariant c.learn_literal.ensures)
