use Rattle.std.proofs.Common.{rules}
use Rattle.lt_values.proofs.sums.int_cell.Goals as goal

pub returns : goal.returns
returns c = search rules
