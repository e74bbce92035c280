use Rattle.std.proofs.Common.{take}
use Rattle.lt_report.specs.Texts.{joined, texts}
use Rattle.lt_report.proofs.Going.{Did}
use Rattle.lt_report.proofs.line.put_words.Given as goal

abbrev pub invariant-words : goal.invariant-words
invariant-words g l = Did (g.K.Sink.holds l.fn.sink) (g.K.Sink.holds l.sink) (g.K.Sink.faults l.fn.sink) (g.K.Sink.faults l.sink) (joined 0 (take l.i (texts l.words)))
