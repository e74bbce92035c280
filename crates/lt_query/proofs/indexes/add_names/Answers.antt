use Rattle.std.proofs.lemmas.Grind.{common_steps}
use Rattle.std.proofs.Common.{arith}
use Rattle.lt_query.proofs.indexes.add_names.Goals as goal

pub loop-guide-preserved : goal.loop-guide-preserved
loop-guide-preserved c = grind (arith, common_steps)
