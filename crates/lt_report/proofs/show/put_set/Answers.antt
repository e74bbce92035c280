use Rattle.std.proofs.Common.{◌≡◌, length, ◌<◌, ◌∙◌, ◌+◌, ℕ, List, take, drop, sym, ap, subst, Some, slice_get}
use Rattle.std.proofs.lemmas.Result.{err_from_is_err_and}
use Rattle.std.specs.Option.{option_copied}
use Rattle.lt_face.specs.Rows.{IsRow}
use Rattle.lt_model.specs.Report.{line, cell_texts, rows_text}
use Rattle.lt_face.proofs.Walked.{first_dropped, dropped_more}
use Rattle.lt_report.proofs.Places.{some_place, row_there, is_there}
use Rattle.lt_report.proofs.Going.{did_more, did_none, stops}
use Rattle.lt_report.proofs.Folding.{text-at, text-more}
use Rattle.lt_report.proofs.Parts.{element_at}
use Rattle.lt_report.proofs.show.put_set.Goals as goal

pub rows-init : goal.rows-init
rows-init g c = record {
  did = did_none _ _;
  left = c.over-walk.ensures;
}

pub unwrap-row-requires : goal.unwrap-row-requires
unwrap-row-requires g c =
    let lt : c.rows._place < length (g.R.RowReads.rows c.args.rows.now) = subst (λ n. c.rows._place < n) (c.len-place-end.ensures ∙ ap length c.over-walk.ensures) c.rows-test.true in
    let here = some_place (g.R.RowReads.rows c.args.rows.now) c.rows._place lt in
    is_there c.next_row.result here.0 (c.next_row.ensures.row ∙ ap (λ (l : List (List ℕ)). slice_get l 0) c.rows.invariant.left ∙ first_dropped c.rows._place (g.R.RowReads.rows c.args.rows.now) ∙ here.1)

pub put_row-requires : goal.put_row-requires
put_row-requires g c =
    let here : Some c.unwrap-row.result.now ≡ slice_get (g.R.RowReads.rows c.args.rows.now) c.rows._place = ap option_copied (sym c.unwrap-row.ensures) ∙ c.next_row.ensures.row ∙ ap (λ (l : List (List ℕ)). slice_get l 0) c.rows.invariant.left ∙ first_dropped c.rows._place (g.R.RowReads.rows c.args.rows.now) in
    let row = row_there (g.R.RowReads.width_of c.args.rows.now) (g.R.RowReads.rows c.args.rows.now) c.rows._place c.unwrap-row.result.now c.width-width.ensures.is_set here in
    subst (λ n. IsRow n c.unwrap-row.result.now) c.requires.wide row

pub returns-in_err-put_row : goal.returns-in_err-put_row
returns-in_err-put_row g c =
    let rows = g.R.RowReads.rows c.args.rows.now in
    let here : Some c.unwrap-row.result.now ≡ slice_get rows c.rows._place = ap option_copied (sym c.unwrap-row.ensures) ∙ c.next_row.ensures.row ∙ ap (λ (l : List (List ℕ)). slice_get l 0) c.rows.invariant.left ∙ first_dropped c.rows._place (g.R.RowReads.rows c.args.rows.now) in
    let within : c.rows._place < length rows = subst (λ n. c.rows._place < n) (c.len-place-end.ensures ∙ ap length c.over-walk.ensures) c.rows-test.true in
    let p = err_from_is_err_and c.from_residual.result c.from_residual.ensures.1 in
    stops c.from_residual.result p.0 _ _ (g.K.Sink.holds c.rows.sink) _ _ (g.K.Sink.faults c.rows.sink) _ (rows_text c.args.kinds.now (take c.rows._place rows)) _ _ (rows_text c.args.kinds.now (drop (c.rows._place + 1) rows)) p.1 c.rows.invariant.did c.in_err-put_row.ensures
    (text-at (λ (row : List ℕ). line (cell_texts c.args.kinds.now row)) rows c.rows._place c.unwrap-row.result.now within (element_at rows c.rows._place c.unwrap-row.result.now (sym here)))

pub rows-preserved : goal.rows-preserved
rows-preserved g c =
    let rows = g.R.RowReads.rows c.args.rows.now in
    let here : Some c.unwrap-row.result.now ≡ slice_get rows c.rows._place = ap option_copied (sym c.unwrap-row.ensures) ∙ c.next_row.ensures.row ∙ ap (λ (l : List (List ℕ)). slice_get l 0) c.rows.invariant.left ∙ first_dropped c.rows._place (g.R.RowReads.rows c.args.rows.now) in
    let within : c.rows._place < length rows = subst (λ n. c.rows._place < n) (c.len-place-end.ensures ∙ ap length c.over-walk.ensures) c.rows-test.true in
    record {
      did = did_more _ (g.K.Sink.holds c.rows.sink) _ _ (g.K.Sink.faults c.rows.sink) _ (rows_text c.args.kinds.now (take c.rows._place rows)) _ _ c.rows.invariant.did c.in_ok-put_row.ensures.ok c.in_ok-put_row.ensures.cause.later
          (text-more (λ (row : List ℕ). line (cell_texts c.args.kinds.now row)) rows c.rows._place c.unwrap-row.result.now within (element_at rows c.rows._place c.unwrap-row.result.now (sym here)));
      left = c.next_row.ensures.rest ∙ ap (λ (l : List (List ℕ)). drop 1 l) c.rows.invariant.left ∙ dropped_more c.rows._place (g.R.RowReads.rows c.args.rows.now);
    }
