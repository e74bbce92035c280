use Rattle.std.proofs.Common.{rules}
use Rattle.lt_script.proofs.step.Step.refused.Goals as goal

pub returns-in-Fault-End : goal.returns-in-Fault-End
returns-in-Fault-End c = search rules
