use Rattle.std.proofs.Common.{rules}
use Rattle.lt_delta.proofs.marks.Marks.share.Goals as goal

pub returns : goal.returns
returns c = search rules
