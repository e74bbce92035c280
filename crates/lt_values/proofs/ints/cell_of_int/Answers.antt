use Rattle.std.proofs.Common.{rules}
use Rattle.lt_values.proofs.ints.cell_of_int.Goals as goal

pub returns-clause-cell : goal.returns-clause-cell
returns-clause-cell c = search rules

pub returns-clause-back : goal.returns-clause-back
returns-clause-back c = search rules

pub returns-clause-least : goal.returns-clause-least
returns-clause-least c = search rules
