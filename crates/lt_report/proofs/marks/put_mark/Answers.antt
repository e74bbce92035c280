use Rattle.std.proofs.Common.{◌≡◌, ◌++◌, [], ◌∷◌}
use Rattle.std.proofs.lemmas.Result.{err_from_is_err_and}
use Rattle.lt_model.specs.Report.{cell_texts, heading_of, sign_text}
use Rattle.lt_report.specs.Texts.{joined}
use Rattle.lt_report.proofs.Going.{did_of, ends, stops_first}
use Rattle.lt_report.proofs.Parts.{heading_there, mark_parts}
use Rattle.lt_report.proofs.marks.put_mark.Goals as goal

pub returns-in_err-put_mark_words : goal.returns-in_err-put_mark_words
returns-in_err-put_mark_words g c =
    let p = err_from_is_err_and c.from_residual.result c.from_residual.ensures.1 in
    let heading = c.index-as_slice-mark.result in
    let is : heading ≡ heading_of c.args.headings.now c.args.mark.now.relation = heading_there c.args.headings.now c.as_slice.result.now c.args.mark.now.relation heading c.as_slice.ensures c.requires.there c.index-as_slice-mark.is in
    let words = joined 0 ((sign_text c.args.mark.now.plus ∷ heading.0 ∷ []) ++ cell_texts c.as_slice-2.result.now c.args.mark.now.row) in
    stops_first c.from_residual.result p.0 _ _ _ _ _ words _ (10 ∷ []) p.1 c.in_err-put_mark_words.ensures
    (mark_parts c.args.headings.now c.args.mark.now heading c.as_slice-2.result.now is c.as_slice-2.ensures.kinds)

pub returns : goal.returns
returns g c =
    let heading = c.index-as_slice-mark.result in
    let is : heading ≡ heading_of c.args.headings.now c.args.mark.now.relation = heading_there c.args.headings.now c.as_slice.result.now c.args.mark.now.relation heading c.as_slice.ensures c.requires.there c.index-as_slice-mark.is in
    let words = joined 0 ((sign_text c.args.mark.now.plus ∷ heading.0 ∷ []) ++ cell_texts c.as_slice-2.result.now c.args.mark.now.row) in
    ends c.write_all.result _ (g.K.Sink.holds c.put_mark_words.new.sink) _ _ (g.K.Sink.faults c.put_mark_words.new.sink) _ words (10 ∷ []) _ (did_of _ _ _ _ _ _ words c.in_ok-put_mark_words.ensures) c.write_all.ensures
    (mark_parts c.args.headings.now c.args.mark.now heading c.as_slice-2.result.now is c.as_slice-2.ensures.kinds)
