use Rattle.std.proofs.Common.{rules}
use Rattle.lt_reference.proofs.progress.Progress.accept.Goals as goal

pub returns-in_ok-self-in-Writes : goal.returns-in_ok-self-in-Writes
returns-in_ok-self-in-Writes c = search rules
