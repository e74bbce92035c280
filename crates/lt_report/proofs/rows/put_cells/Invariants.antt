use Rattle.std.proofs.Common.{◌≡◌, ◌+◌, take}
use Rattle.lt_model.specs.Report.{cell_texts}
use Rattle.lt_report.specs.Texts.{joined}
use Rattle.lt_report.proofs.Going.{Did}
use Rattle.lt_report.proofs.rows.put_cells.Given as goal

abbrev pub invariant-cells : goal.invariant-cells
invariant-cells g l = record {
  did : Did (g.K.Sink.holds l.fn.sink) (g.K.Sink.holds l.sink) (g.K.Sink.faults l.fn.sink) (g.K.Sink.faults l.sink) (joined l.before (take l.i (cell_texts l.kinds l.cells)));
  at : l.place ≡ l.before + l.i;
}
