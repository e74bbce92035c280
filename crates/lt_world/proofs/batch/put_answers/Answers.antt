use Rattle.std.proofs.Common.{◌≡◌, ◌++◌, List, ℕ, append_assoc, ap, map, refl}
use Rattle.std.proofs.lemmas.Result.{err_from_is_err_and}
use Rattle.lt_model.specs.Report.{batch_text, version_text}
use Rattle.lt_report.proofs.Going.{did_more, did_of, ends, stops, stops_first}
use Rattle.lt_world.specs.Batches.{checked_of, told}
use Rattle.lt_world.proofs.batch.put_answers.Goals as goal

pub returns-in_err-put_batch : goal.returns-in_err-put_batch
returns-in_err-put_batch g c =
    let p = err_from_is_err_and c.from_residual.result c.from_residual.ensures.1 in
    let lines = told c.args.marks c.args.headings.now c.args.programs.now (map checked_of c.args.judgements.now) c.args.replies.now c.args.effects.now in
    stops_first c.from_residual.result p.0 _ _ _ _ _ (batch_text c.args.number) _ (lines ++ version_text c.args.number) p.1 c.in_err-put_batch.ensures (append_assoc (batch_text c.args.number) lines (version_text c.args.number))

pub returns-in_err-put_programs : goal.returns-in_err-put_programs
returns-in_err-put_programs g c =
    let r = c.from_residual-in_err-put_programs in
    let p = err_from_is_err_and r.result r.ensures.1 in
    let lines = told c.args.marks c.args.headings.now c.args.programs.now (map checked_of c.args.judgements.now) c.as_slice-replies.result.now c.as_slice-effects.result.now in
    let same : told c.args.marks c.args.headings.now c.args.programs.now (map checked_of c.args.judgements.now) c.args.replies.now c.args.effects.now ≡ lines = cc in
    stops r.result p.0 _ _ (g.K.Sink.holds c.put_batch.new.sink) _ _ (g.K.Sink.faults c.put_batch.new.sink) _ (batch_text c.args.number) lines _ (version_text c.args.number) p.1 (did_of _ _ _ _ _ _ (batch_text c.args.number) c.in_ok-put_batch.ensures) c.in_err-put_programs.ensures
    (ap (λ (t : List ℕ). (batch_text c.args.number ++ t) ++ version_text c.args.number) same)

pub returns : goal.returns
returns g c =
    let lines = told c.args.marks c.args.headings.now c.args.programs.now (map checked_of c.args.judgements.now) c.as_slice-replies.result.now c.as_slice-effects.result.now in
    let same : told c.args.marks c.args.headings.now c.args.programs.now (map checked_of c.args.judgements.now) c.args.replies.now c.args.effects.now ≡ lines = cc in
    let first = did_of _ _ _ _ _ _ (batch_text c.args.number) c.in_ok-put_batch.ensures in
    let both = did_more _ (g.K.Sink.holds c.put_batch.new.sink) _ _ (g.K.Sink.faults c.put_batch.new.sink) _ (batch_text c.args.number) lines (batch_text c.args.number ++ lines) first c.in_ok-put_programs.ensures.ok c.in_ok-put_programs.ensures.cause.later refl in
    ends c.put_version.result _ (g.K.Sink.holds c.put_programs.new.sink) _ _ (g.K.Sink.faults c.put_programs.new.sink) _ (batch_text c.args.number ++ lines) (version_text c.args.number) _ both c.put_version.ensures
    (ap (λ (t : List ℕ). (batch_text c.args.number ++ t) ++ version_text c.args.number) same)
