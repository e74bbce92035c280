use Rattle.std.proofs.Common.{◌+◌, drop, sym, take}
use Rattle.std.proofs.lemmas.Result.{err_from_is_err_and}
use Rattle.lt_face.specs.State.{Row}
use Rattle.lt_model.specs.Report.{cell_texts, line as line_of, rows_text}
use Rattle.lt_report.proofs.Going.{stops}
use Rattle.lt_report.proofs.Folding.{text-at}
use Rattle.lt_report.proofs.rows.put_list.Goals as goal

pub returns-in_err-put_row : goal.returns-in_err-put_row
returns-in_err-put_row g c =
    let p = err_from_is_err_and c.from_residual.result c.from_residual.ensures.1 in
    stops c.from_residual.result p.0 _ _ (g.K.Sink.holds c.rows.sink) _ _ (g.K.Sink.faults c.rows.sink) _ (rows_text c.args.kinds.now (take c.rows.row-index c.args.rows.now)) _ _ (rows_text c.args.kinds.now (drop (c.rows.row-index + 1) c.args.rows.now)) p.1 c.rows.invariant c.in_err-put_row.ensures
    (text-at (λ (row : Row). line_of (cell_texts c.args.kinds.now row)) c.args.rows.now c.rows.row-index _ c.rows-test.true (sym c.row-item.is))
