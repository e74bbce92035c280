use Rattle.std.proofs.lemmas.Grind.{common_steps}
use Rattle.std.proofs.Common.{arith}
use Rattle.lt_base.proofs.database.Database.declared.Goals as goal

pub returns-clause-tables : goal.returns-clause-tables
returns-clause-tables c = grind (arith, common_steps)

pub returns-clause-state : goal.returns-clause-state
returns-clause-state c = grind (arith, common_steps)
