use Rattle.std.proofs.Common.{rules}
use Rattle.lt_reference.proofs.matching.accept.Goals as goal

pub returns-in-Cell : goal.returns-in-Cell
returns-in-Cell c = search rules
