use Rattle.std.proofs.Common.{◌++◌, ℕ, ap, sym}
use Rattle.std.proofs.lemmas.Result.{err_from_is_err_and}
use Rattle.lt_model.specs.Report.{rows_text}
use Rattle.lt_report.specs.Texts.{show_line}
use Rattle.lt_report.proofs.Going.{did_of, ends, stops_first}
use Rattle.lt_report.proofs.show.put_held.Goals as goal

pub returns-in_err-put_show_line : goal.returns-in_err-put_show_line
returns-in_err-put_show_line g c =
    let rows = g.R.RowReads.rows c.args.rows.now in
    let p = err_from_is_err_and c.from_residual.result c.from_residual.ensures.1 in
    stops_first c.from_residual.result p.0 _ _ _ _ _ (show_line c.args.name.now c.args.at c.len.result) _ (rows_text c.args.kinds.now rows) p.1 c.in_err-put_show_line.ensures
    (ap (λ (n : ℕ). show_line c.args.name.now c.args.at n ++ rows_text c.args.kinds.now rows) (sym c.len.ensures))

pub returns : goal.returns
returns g c =
    let rows = g.R.RowReads.rows c.args.rows.now in
    let first = show_line c.args.name.now c.args.at c.len.result in
    ends c.put_set.result _ (g.K.Sink.holds c.put_show_line.new.sink) _ _ (g.K.Sink.faults c.put_show_line.new.sink) _ first (rows_text c.args.kinds.now rows) _ (did_of _ _ _ _ _ _ first c.in_ok-put_show_line.ensures) c.put_set.ensures
    (ap (λ (n : ℕ). show_line c.args.name.now c.args.at n ++ rows_text c.args.kinds.now rows) (sym c.len.ensures))
