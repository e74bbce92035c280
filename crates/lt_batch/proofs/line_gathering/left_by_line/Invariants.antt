use Rattle.std.proofs.Common.{◌≡◌}
use Rattle.lt_base.specs.Tables.{state_of}
use Rattle.lt_batch.specs.Line.{state_before}
use Rattle.lt_batch.proofs.line_gathering.left_by_line.Given as goal

abbrev pub invariant-loop-s : goal.invariant-loop-s
invariant-loop-s l = state_of l.db ≡ state_before l.line.work.batches (state_of l.line.work.snapshot) l.s
