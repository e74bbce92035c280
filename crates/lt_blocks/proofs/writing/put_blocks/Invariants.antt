use Rattle.std.proofs.Common.{take}
use Rattle.lt_report.proofs.Going.{Did}
use Rattle.lt_blocks.specs.Blocks.{blocks_text}
use Rattle.lt_blocks.proofs.writing.put_blocks.Given as goal

-- the lines of the first are written
abbrev pub invariant-each : goal.invariant-each
invariant-each g l = Did (g.K.Sink.holds l.fn.sink) (g.K.Sink.holds l.sink) (g.K.Sink.faults l.fn.sink) (g.K.Sink.faults l.sink) (blocks_text (take l.block-index l.blocks))
