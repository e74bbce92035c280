use Rattle.lt_batch.specs.Line.{batch_at}
use Rattle.lt_batch.proofs.InOrder.{RanFirst}
use Rattle.lt_batch.proofs.LineRuns.{base_in, leaves_in}
use Rattle.lt_batch.proofs.line_gathering.gathered_in.Given as goal

abbrev pub invariant-loop-leaf : goal.invariant-loop-leaf
invariant-loop-leaf l = RanFirst (batch_at l.line.work.batches l.s) (base_in l.line l.s) (leaves_in l.line l.s) l.leaf l.replies l.effects
