use Rattle.std.proofs.Common.{rules}
use Rattle.lt_query.proofs.levels.constant_of.Goals as goal

pub returns-then-u-v : goal.returns-then-u-v
returns-then-u-v c = search rules

pub returns-in-Cmp-3 : goal.returns-in-Cmp-3
returns-in-Cmp-3 c = search rules
