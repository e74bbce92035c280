use Rattle.std.proofs.Common.{◌≡◌, length, map, take}
use Rattle.lt_batch.specs.Line.{programs_of}
use Rattle.lt_batch.proofs.line.sizes_of.Given as goal

abbrev pub invariant-loop-batch : goal.invariant-loop-batch
invariant-loop-batch l = l.sizes.items ≡ map length (programs_of (take l.batch-index l.batches))
