use Rattle.std.proofs.Common.{rules}
use Rattle.lt_batch.proofs.gathering.left.Goals as goal

pub returns : goal.returns
returns c = search rules
