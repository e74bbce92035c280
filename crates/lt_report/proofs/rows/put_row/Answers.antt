use Rattle.std.proofs.Common.{◌∙◌, ◌++◌, [], ◌∷◌, ℕ, List, ap, sym}
use Rattle.std.proofs.lemmas.Result.{err_from_is_err_and}
use Rattle.lt_model.specs.Report.{cell_texts}
use Rattle.lt_report.specs.Texts.{joined}
use Rattle.lt_report.proofs.Going.{did_of, ends, stops_first}
use Rattle.lt_report.proofs.Joining.{join_joined}
use Rattle.lt_report.proofs.rows.put_row.Goals as goal

pub returns-in_err-put_cells : goal.returns-in_err-put_cells
returns-in_err-put_cells g c =
    let p = err_from_is_err_and c.from_residual.result c.from_residual.ensures.1 in
    let words = cell_texts c.args.kinds.now c.cells.result.now in
    stops_first c.from_residual.result p.0 _ _ _ _ _ (joined 0 words) _ (10 ∷ []) p.1 c.in_err-put_cells.ensures
    (ap (λ (s : List ℕ). s ++ 10 ∷ []) (join_joined (cell_texts c.args.kinds.now c.args.row.now) ∙ ap (λ (r : List ℕ). joined 0 (cell_texts c.args.kinds.now r)) (sym c.cells.ensures.cells)))

pub returns : goal.returns
returns g c =
    let words = cell_texts c.args.kinds.now c.cells.result.now in
    ends c.write_all.result _ (g.K.Sink.holds c.put_cells.new.sink) _ _ (g.K.Sink.faults c.put_cells.new.sink) _ (joined 0 words) (10 ∷ []) _ (did_of _ _ _ _ _ _ (joined 0 words) c.in_ok-put_cells.ensures) c.write_all.ensures
    (ap (λ (s : List ℕ). s ++ 10 ∷ []) (join_joined (cell_texts c.args.kinds.now c.args.row.now) ∙ ap (λ (r : List ℕ). joined 0 (cell_texts c.args.kinds.now r)) (sym c.cells.ensures.cells)))
