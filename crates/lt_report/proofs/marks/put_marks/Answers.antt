use Rattle.std.proofs.Common.{◌<◌, ◌+◌, drop, length, subst, take}
use Rattle.std.proofs.lemmas.Result.{err_from_is_err_and}
use Rattle.lt_model.specs.Report.{mark_text, marks_text}
use Rattle.lt_report.proofs.Going.{did_more, stops}
use Rattle.lt_report.proofs.Folding.{text-at, text-more}
use Rattle.lt_report.proofs.Parts.{element_at}
use Rattle.lt_report.proofs.marks.put_marks.Goals as goal

pub returns-in_err-put_mark : goal.returns-in_err-put_mark
returns-in_err-put_mark g c =
    let p = err_from_is_err_and c.from_residual.result c.from_residual.ensures.1 in
    let within : c.marks.i < length c.args.marks.now = subst (λ n. c.marks.i < n) c.len-i-end.ensures.count c.marks-test.true in
    stops c.from_residual.result p.0 _ _ (g.K.Sink.holds c.marks.sink) _ _ (g.K.Sink.faults c.marks.sink) _ (marks_text c.args.headings.now (take c.marks.i c.args.marks.now)) _ _ (marks_text c.args.headings.now (drop (c.marks.i + 1) c.args.marks.now)) p.1 c.marks.invariant c.in_err-put_mark.ensures
    (text-at (mark_text c.args.headings.now) c.args.marks.now c.marks.i c.mark.result.now within (element_at c.args.marks.now c.marks.i c.mark.result.now c.mark.ensures))

pub marks-preserved : goal.marks-preserved
marks-preserved g c =
    let within : c.marks.i < length c.args.marks.now = subst (λ n. c.marks.i < n) c.len-i-end.ensures.count c.marks-test.true in
    did_more _ (g.K.Sink.holds c.marks.sink) _ _ (g.K.Sink.faults c.marks.sink) _ (marks_text c.args.headings.now (take c.marks.i c.args.marks.now)) _ _ c.marks.invariant c.in_ok-put_mark.ensures.ok c.in_ok-put_mark.ensures.cause.later
    (text-more (mark_text c.args.headings.now) c.args.marks.now c.marks.i c.mark.result.now within (element_at c.args.marks.now c.marks.i c.mark.result.now c.mark.ensures))
