use Rattle.std.proofs.Common.{rules}
use Rattle.lt_net.proofs.job.JobName.code.Goals as goal

pub returns-in-Merge : goal.returns-in-Merge
returns-in-Merge c = search rules

pub returns-in-Correct : goal.returns-in-Correct
returns-in-Correct c = search rules
