use Rattle.std.proofs.Common.{rules}
use Rattle.lt_check.proofs.bound.Bound.by.Goals as goal

pub returns : goal.returns
returns c = search rules
