use Rattle.std.proofs.Common.{◌≤◌, take, All}
use Rattle.lt_picture.proofs.picture.most_entries.Given as goal

abbrev pub invariant-loop-batch : goal.invariant-loop-batch
invariant-loop-batch l = All (λ batch. batch.events ≤ l.entries) (take l.batch-index l.batches)
