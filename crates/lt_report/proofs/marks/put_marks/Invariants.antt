use Rattle.std.proofs.Common.{take}
use Rattle.lt_model.specs.Report.{marks_text}
use Rattle.lt_report.proofs.Going.{Did}
use Rattle.lt_report.proofs.marks.put_marks.Given as goal

abbrev pub invariant-marks : goal.invariant-marks
invariant-marks g l = Did (g.K.Sink.holds l.fn.sink) (g.K.Sink.holds l.sink) (g.K.Sink.faults l.fn.sink) (g.K.Sink.faults l.sink) (marks_text l.headings (take l.i l.marks))
