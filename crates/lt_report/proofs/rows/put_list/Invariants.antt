use Rattle.std.proofs.Common.{take}
use Rattle.lt_model.specs.Report.{rows_text}
use Rattle.lt_report.proofs.Going.{Did}
use Rattle.lt_report.proofs.rows.put_list.Given as goal

abbrev pub invariant-rows : goal.invariant-rows
invariant-rows g l = Did (g.K.Sink.holds l.fn.sink) (g.K.Sink.holds l.sink) (g.K.Sink.faults l.fn.sink) (g.K.Sink.faults l.sink) (rows_text l.kinds (take l.row-index l.rows))
