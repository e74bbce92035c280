use Rattle.std.proofs.Common.{◌∙◌, ◌++◌, [], ◌∷◌, ℕ, List, ap, sym}
use Rattle.std.proofs.lemmas.Result.{err_from_is_err_and}
use Rattle.lt_model.specs.Report.{cell_texts, sign_text}
use Rattle.lt_report.specs.Texts.{joined}
use Rattle.lt_report.proofs.Going.{did_of, ends, stops_first}
use Rattle.lt_report.proofs.Joining.{joined-append}
use Rattle.lt_report.proofs.marks.put_mark_words.Goals as goal

pub returns-in_err-put_sign : goal.returns-in_err-put_sign
returns-in_err-put_sign g c =
    let p = err_from_is_err_and c.from_residual.result c.from_residual.ensures.1 in
    let first = sign_text c.args.plus ∷ c.args.name.now ∷ [] in
    stops_first c.from_residual.result p.0 _ _ _ _ _ (joined 0 first) _ (joined 2 (cell_texts c.args.kinds.now c.args.row.now)) p.1 c.in_err-put_sign.ensures
    (joined-append 0 first (cell_texts c.args.kinds.now c.args.row.now))

pub returns : goal.returns
returns g c =
    let first = sign_text c.args.plus ∷ c.args.name.now ∷ [] in
    ends c.put_cells.result _ (g.K.Sink.holds c.put_sign.new.sink) _ _ (g.K.Sink.faults c.put_sign.new.sink) _ (joined 0 first) (joined 2 (cell_texts c.args.kinds.now c.cells.result.now)) _ (did_of _ _ _ _ _ _ (joined 0 first) c.in_ok-put_sign.ensures) c.put_cells.ensures
    (joined-append 0 first (cell_texts c.args.kinds.now c.args.row.now) ∙ ap (λ (r : List ℕ). joined 0 first ++ joined 2 (cell_texts c.args.kinds.now r)) (sym c.cells.ensures.cells))
