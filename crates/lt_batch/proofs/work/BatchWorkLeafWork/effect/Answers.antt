use Rattle.std.proofs.Common.{◌∙◌}
use Rattle.lt_batch.proofs.work.BatchWorkLeafWork.effect.Goals as goal

pub returns : goal.returns
returns c = λ leaf on stands. c.effect.ensures ∙ stands.marks
