use Rattle.std.proofs.Common.{arith}
use Rattle.lt_check.proofs.Narrowing.{Narrows_misfit, Narrows_argument}
use Rattle.lt_check.proofs.kinds.Known.learn_row.Goals as goal

pub returns-then-terms-columns : goal.returns-then-terms-columns
returns-then-terms-columns c = Narrows_misfit _ _ _ _ c.if-terms-columns.true

pub loop-i-preserved : goal.loop-i-preserved
loop-i-preserved c =
    rw c.and-told.ensures
    (Narrows_argument c.args.names.now c.args.terms.now c.args.columns.now c.loop-i.i c.index-terms-i.result _ _ _ _ _ c.loop-i-test.true (omega arith) c.index-terms-i.is c.loop-i.invariant c.learn.ensures)
