use Rattle.std.proofs.Common.{map}
use Rattle.std.specs.Arc.{arc_value}
use Rattle.lt_batch.proofs.SpanLists.{IsLaidOut}
use Rattle.lt_batch.proofs.spans.laid_out.Given as goal

abbrev pub invariant-loop-batch : goal.invariant-loop-batch
invariant-loop-batch l = IsLaidOut l.batches l.batch-index (map arc_value l.all.items) l.spans.items
