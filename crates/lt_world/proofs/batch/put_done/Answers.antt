use Rattle.std.proofs.Common.{[], ◌++◌, ◌∙◌, ap, refl, append-nil}
use Rattle.std.specs.Prelude.{if◌then◌else◌, Bool}
use Rattle.std.proofs.lemmas.Result.{err_from_is_err_and}
use Rattle.lt_model.specs.Report.{marks_text, reply_text}
use Rattle.lt_report.proofs.Going.{all_done, did_of, ends, stops_first}
use Rattle.lt_world.proofs.batch.put_done.Goals as goal

pub returns-in_err-put_reply : goal.returns-in_err-put_reply
returns-in_err-put_reply g c =
    let p = err_from_is_err_and c.from_residual.result c.from_residual.ensures.1 in
    stops_first c.from_residual.result p.0 _ _ _ _ _ (reply_text c.args.name.now c.args.reply.now) _ (if c.args.marks then marks_text c.args.headings.now c.args.effect.now else []) p.1 c.in_err-put_reply.ensures refl

pub returns-then-marks : goal.returns-then-marks
returns-then-marks g c =
    let first = reply_text c.args.name.now c.args.reply.now in
    ends c.put_marks.result _ (g.K.Sink.holds c.put_reply.new.sink) _ _ (g.K.Sink.faults c.put_reply.new.sink) _ first (marks_text c.args.headings.now c.args.effect.now) _ (did_of _ _ _ _ _ _ first c.in_ok-put_reply.ensures) c.put_marks.ensures
    (ap (λ (b : Bool). first ++ (if b then marks_text c.args.headings.now c.args.effect.now else [])) c.if-marks.true)

pub returns : goal.returns
returns g c =
    let first = reply_text c.args.name.now c.args.reply.now in
    all_done _ _ _ _ _ _ first _ (did_of _ _ _ _ _ _ first c.in_ok-put_reply.ensures)
    (ap (λ (b : Bool). first ++ (if b then marks_text c.args.headings.now c.args.effect.now else [])) c.if-marks.false ∙ append-nil first)
