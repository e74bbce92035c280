use Rattle.std.proofs.Common.{[], ◌∷◌, length, refl}
use Rattle.std.specs.Prelude.{codes, decimal}
use Rattle.std.proofs.lemmas.Result.{err_from_is_err_and}
use Rattle.lt_model.specs.Report.{line as line_of, rows_text}
use Rattle.lt_report.proofs.Going.{did_of, ends, stops_first}
use Rattle.lt_report.proofs.Parts.{print_parts}
use Rattle.lt_report.proofs.reply.put_print.Goals as goal

pub returns-in_err-put_print_line : goal.returns-in_err-put_print_line
returns-in_err-put_print_line g c =
    let p = err_from_is_err_and c.from_residual.result c.from_residual.ensures.1 in
    let rows = c.as_slice-rows.result.now in
    stops_first c.from_residual.result p.0 _ _ _ _ _ (line_of (codes "print" ∷ decimal c.args.printed.now.statement ∷ decimal (length rows) ∷ [])) _ (rows_text c.args.printed.now.kinds rows) p.1 c.in_err-put_print_line.ensures
    (print_parts c.args.printed.now rows c.args.printed.now.kinds c.as_slice-rows.ensures refl)

pub returns : goal.returns
returns g c =
    let rows = c.as_slice-rows.result.now in
    let first = line_of (codes "print" ∷ decimal c.args.printed.now.statement ∷ decimal (length rows) ∷ []) in
    ends c.put_list.result _ (g.K.Sink.holds c.put_print_line.new.sink) _ _ (g.K.Sink.faults c.put_print_line.new.sink) _ first (rows_text c.as_slice.result.now rows) _ (did_of _ _ _ _ _ _ first c.in_ok-put_print_line.ensures) c.put_list.ensures
    (print_parts c.args.printed.now rows c.as_slice.result.now c.as_slice-rows.ensures c.as_slice.ensures.kinds)
