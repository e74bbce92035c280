use Rattle.std.proofs.Common.{subst}
use Rattle.lt_join.specs.Lone.{IsLeftBy}
use Rattle.lt_join.proofs.Asking.{left_differs, left_none}
use Rattle.lt_join.proofs.level.and_key.Goals as goal

pub returns-else-other-key : goal.returns-else-other-key
returns-else-other-key c = λ before left. left_differs before c.in-One.other c.args.key c.if-other-key.false (subst (IsLeftBy before) c.in-One.is left)

pub returns-in-None : goal.returns-in-None
returns-in-None c = λ before left. left_none before c.args.key (subst (IsLeftBy before) c.in-None.is left)
