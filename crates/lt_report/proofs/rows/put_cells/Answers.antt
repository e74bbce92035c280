use Rattle.std.proofs.Common.{◌<◌, ◌≤◌, ◌∙◌, ◌+◌, ap, drop, length, sym, take, arith}
use Rattle.std.proofs.lemmas.List.{take_all}
use Rattle.std.proofs.lemmas.Result.{err_from_is_err_and}
use Rattle.lt_model.specs.Report.{cell_texts}
use Rattle.lt_report.specs.Texts.{joined}
use Rattle.lt_report.proofs.Going.{all_done, did_more, stops}
use Rattle.lt_report.proofs.Joining.{word-at, word-more}
use Rattle.lt_report.proofs.CellTexts.{length-cell_texts, get_or-cell_texts}
use Rattle.lt_report.proofs.rows.put_cells.Goals as goal

pub returns-in_err-put_word : goal.returns-in_err-put_word
returns-in_err-put_word g c =
    let words = cell_texts c.args.kinds.now c.args.cells.now in
    let within : c.cells.i < length words = rw (length-cell_texts c.args.kinds.now c.args.cells.now c.requires.row.is_wide) c.cells-test.true in
    let p = err_from_is_err_and c.from_residual.result c.from_residual.ensures.1 in
    stops c.from_residual.result p.0 _ _ (g.K.Sink.holds c.cells.sink) _ _ (g.K.Sink.faults c.cells.sink) _ (joined c.args.before (take c.cells.i words)) _ _ (joined (c.cells.place + 1) (drop (c.cells.i + 1) words)) p.1 c.cells.invariant.did c.in_err-put_word.ensures
    (word-at c.args.before words c.cells.i c.cells.place c.as_bytes.result.now within c.cells.invariant.at (get_or-cell_texts c.args.kinds.now c.args.cells.now c.cells.i _ _ c.requires.row.is_wide c.cells-test.true ∙ sym (c.as_bytes.ensures.bytes ∙ c.cell_text-text.ensures)))

pub cells-preserved : goal.cells-preserved
cells-preserved g c =
    let words = cell_texts c.args.kinds.now c.args.cells.now in
    let within : c.cells.i < length words = rw (length-cell_texts c.args.kinds.now c.args.cells.now c.requires.row.is_wide) c.cells-test.true in
    record {
      did = did_more _ (g.K.Sink.holds c.cells.sink) _ _ (g.K.Sink.faults c.cells.sink) _ (joined c.args.before (take c.cells.i words)) _ _ c.cells.invariant.did c.in_ok-put_word.ensures.ok c.in_ok-put_word.ensures.cause.later
          (word-more c.args.before words c.cells.i c.cells.place c.as_bytes.result.now within c.cells.invariant.at (get_or-cell_texts c.args.kinds.now c.args.cells.now c.cells.i _ _ c.requires.row.is_wide c.cells-test.true ∙ sym (c.as_bytes.ensures.bytes ∙ c.cell_text-text.ensures)));
      at = omega (arith, c.cells.invariant.at);
    }

pub returns : goal.returns
returns g c =
    let words = cell_texts c.args.kinds.now c.args.cells.now in
    let all : length words ≤ c.cells.i = rw (length-cell_texts c.args.kinds.now c.args.cells.now c.requires.row.is_wide) c.cells-test.false in
    all_done _ _ _ _ _ _ (joined c.args.before (take c.cells.i words)) _ c.cells.invariant.did (ap (joined c.args.before) (sym (take_all c.cells.i words all)))
