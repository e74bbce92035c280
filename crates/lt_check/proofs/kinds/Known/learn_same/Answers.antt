use Rattle.std.proofs.Common.{sym}
use Rattle.lt_check.proofs.Narrowing.{Narrows_left}
use Rattle.lt_check.proofs.kinds.Known.learn_same.Goals as goal

pub returns-in-Some : goal.returns-in-Some
returns-in-Some c = Narrows_left c.args.names.now c.args.left.now c.args.right.now c.in-Some.kind _ _ _ (sym c.in-Some.ensures) c.learn.ensures
