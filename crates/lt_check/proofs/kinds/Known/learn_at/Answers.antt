use Rattle.std.proofs.Common.{sym}
use Rattle.lt_check.proofs.Narrowing.{Narrows_set}
use Rattle.lt_check.proofs.kinds.Known.learn_at.Goals as goal

pub returns-in-None : goal.returns-in-None
returns-in-None c = rw c.self.view_is (Narrows_set c.args.self.now c.args.place c.args.kind (sym c.in-None.ensures))
