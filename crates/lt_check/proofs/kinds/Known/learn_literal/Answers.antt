use Rattle.std.proofs.Common.{rules}
use Rattle.lt_check.proofs.kinds.Known.learn_literal.Goals as goal

pub returns-in-Cmp : goal.returns-in-Cmp
returns-in-Cmp c = search rules

pub returns-in-Sum : goal.returns-in-Sum
returns-in-Sum c = search rules
