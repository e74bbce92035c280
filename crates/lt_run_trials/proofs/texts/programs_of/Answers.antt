use Rattle.std.proofs.Common.{[], subst}
use Rattle.lt_model.specs.Limits.{IsWithinLimits}
use Rattle.lt_run_trials.proofs.texts.programs_of.Goals as goal

-- the first item of a reader at the start is within the limits
pub returns-in-Item-Batch : goal.returns-in-Item-Batch
returns-in-Item-Batch c =
    let within = (c.in-Item-Batch.ensures.next [] c.over-reader.ensures.start).within in
    (subst IsWithinLimits c.in-Item-Batch.field-0-is within).0
