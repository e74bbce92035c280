use Rattle.std.proofs.Common.{◌≡◌, take, drop}
use Rattle.lt_model.specs.Report.{rows_text}
use Rattle.lt_report.proofs.Going.{Did}
use Rattle.lt_report.proofs.show.put_set.Given as goal

abbrev pub invariant-rows : goal.invariant-rows
invariant-rows g l = record {
  did : Did (g.K.Sink.holds l.fn.sink) (g.K.Sink.holds l.sink) (g.K.Sink.faults l.fn.sink) (g.K.Sink.faults l.sink) (rows_text l.kinds (take l._place (g.R.RowReads.rows l.rows)));
  left : l.walk ≡ drop l._place (g.R.RowReads.rows l.rows);
}
