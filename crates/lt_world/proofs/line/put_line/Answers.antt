use Rattle.std.proofs.Common.{◌≡◌, ◌∙◌, ◌<◌, ◌+◌, ◌++◌, List, length, map, ap, sym, subst, arith}
use Rattle.std.proofs.lemmas.Result.{err_from_is_err_and}
use Rattle.std.specs.Io.KnownBytes.{Appends}
use Rattle.lt_model.specs.declared.syntax.Program.{Program}
use Rattle.lt_model.specs.declared.reply.Reply.{Reply}
use Rattle.lt_model.specs.Marks.{Marks}
use Rattle.lt_model.specs.Report.{Text, batch_text, version_text}
use Rattle.std.specs.Global.{Vec}
use Rattle.lt_report.proofs.Going.{stops}
use Rattle.lt_world.specs.declared.batch.Judgement.{Judgement}
use Rattle.lt_world.specs.Batches.{checked_of, told}
use Rattle.lt_world.specs.Lines.{checks_of, line_text, HaveAnswers}
use Rattle.lt_world.proofs.LineTelling.{enough, line_parts, line_told, rest_from}
use Rattle.lt_world.proofs.line.put_line.Goals as goal

pub loop-i-preserved : goal.loop-i-preserved
loop-i-preserved g c =
    let js = c.as_slice-judgements.result.now in
    let rs = c.as_slice-replies.result.now in
    let es = c.as_slice-effects.result.now in
    let begins : HaveAnswers c.args.headings.now c.args.batches.now js rs es =
    subst (λ (xs : List (Vec Judgement)). HaveAnswers c.args.headings.now c.args.batches.now xs rs es) (sym c.as_slice-judgements.ensures.value)
    (subst (λ (xs : List (List Reply)). HaveAnswers c.args.headings.now c.args.batches.now c.args.ran.now.judgements.items xs es) (sym c.as_slice-replies.ensures)
    (subst (λ (xs : List (List Marks)). HaveAnswers c.args.headings.now c.args.batches.now c.args.ran.now.judgements.items c.args.ran.now.replies xs) (sym c.as_slice-effects.ensures) c.requires.answers)) in
    let places = enough c.args.headings.now c.args.batches.now js rs es begins in
    let here : c.loop-i.i < length c.args.batches.now = c.loop-i-test.true in
    let j_below : c.loop-i.i < length js = omega (arith, here, places.0) in
    let r_below : c.loop-i.i < length rs = omega (arith, here, places.1) in
    let e_below : c.loop-i.i < length es = omega (arith, here, places.2) in
    let same : told c.args.marks c.args.headings.now c.as_slice.result.now (map checked_of c.deref.result.now) c.index-replies-i.result c.index-effects-i.result ≡ told c.args.marks c.args.headings.now c.index-batches-i.result (map checked_of c.index-judgements-i.result.items) c.index-replies-i.result c.index-effects-i.result =
    ap (λ (ps : List Program). told c.args.marks c.args.headings.now ps (map checked_of c.deref.result.now) c.index-replies-i.result c.index-effects-i.result) c.as_slice.ensures
    ∙ ap (λ (ks : List Judgement). told c.args.marks c.args.headings.now c.index-batches-i.result (map checked_of ks) c.index-replies-i.result c.index-effects-i.result) c.deref.ensures.value in
    let number = c.args.ran.now.number + c.loop-i.i in
    let text = ap (λ (t : Text). batch_text number ++ t ++ version_text number) same in
    line_told c.args.marks c.args.headings.now c.args.ran.now.number c.args.batches.now js rs es _ _ _ _ c.loop-i.i c.index-batches-i.result c.index-judgements-i.result c.index-replies-i.result c.index-effects-i.result c.loop-i.invariant here c.index-batches-i.is j_below c.index-judgements-i.is r_below c.index-replies-i.is e_below c.index-effects-i.is _ _ (subst (Appends _ _) text c.in_ok-put_answers.ensures.ok) c.in_ok-put_answers.ensures.cause.later

pub returns-in_err-put_answers : goal.returns-in_err-put_answers
returns-in_err-put_answers g c =
    let js = c.as_slice-judgements.result.now in
    let rs = c.as_slice-replies.result.now in
    let es = c.as_slice-effects.result.now in
    let begins : HaveAnswers c.args.headings.now c.args.batches.now js rs es =
    subst (λ (xs : List (Vec Judgement)). HaveAnswers c.args.headings.now c.args.batches.now xs rs es) (sym c.as_slice-judgements.ensures.value)
    (subst (λ (xs : List (List Reply)). HaveAnswers c.args.headings.now c.args.batches.now c.args.ran.now.judgements.items xs es) (sym c.as_slice-replies.ensures)
    (subst (λ (xs : List (List Marks)). HaveAnswers c.args.headings.now c.args.batches.now c.args.ran.now.judgements.items c.args.ran.now.replies xs) (sym c.as_slice-effects.ensures) c.requires.answers)) in
    let places = enough c.args.headings.now c.args.batches.now js rs es begins in
    let here : c.loop-i.i < length c.args.batches.now = c.loop-i-test.true in
    let j_below : c.loop-i.i < length js = omega (arith, here, places.0) in
    let r_below : c.loop-i.i < length rs = omega (arith, here, places.1) in
    let e_below : c.loop-i.i < length es = omega (arith, here, places.2) in
    let same : told c.args.marks c.args.headings.now c.as_slice.result.now (map checked_of c.deref.result.now) c.index-replies-i.result c.index-effects-i.result ≡ told c.args.marks c.args.headings.now c.index-batches-i.result (map checked_of c.index-judgements-i.result.items) c.index-replies-i.result c.index-effects-i.result =
    ap (λ (ps : List Program). told c.args.marks c.args.headings.now ps (map checked_of c.deref.result.now) c.index-replies-i.result c.index-effects-i.result) c.as_slice.ensures
    ∙ ap (λ (ks : List Judgement). told c.args.marks c.args.headings.now c.index-batches-i.result (map checked_of ks) c.index-replies-i.result c.index-effects-i.result) c.deref.ensures.value in
    let number = c.args.ran.now.number + c.loop-i.i in
    let text = ap (λ (t : Text). batch_text number ++ t ++ version_text number) same in
    let p = err_from_is_err_and c.from_residual.result c.from_residual.ensures.1 in
    let told_all : line_text c.args.marks c.args.headings.now c.args.ran.now.number c.args.batches.now (checks_of c.args.ran.now.judgements.items) c.args.ran.now.replies c.args.ran.now.effects ≡ line_text c.args.marks c.args.headings.now c.args.ran.now.number c.args.batches.now (checks_of js) rs es = cc in
    let rest = rest_from c.args.marks c.args.headings.now c.args.ran.now.number c.args.batches.now js rs es (c.loop-i.i + 1) in
    stops c.from_residual.result p.0 _ _ (g.K.Sink.holds c.loop-i.sink) _ _ (g.K.Sink.faults c.loop-i.sink) _ c.loop-i.invariant.front
    (batch_text number ++ told c.args.marks c.args.headings.now c.as_slice.result.now (map checked_of c.deref.result.now) c.index-replies-i.result c.index-effects-i.result ++ version_text number) _ rest p.1 c.loop-i.invariant.did c.in_err-put_answers.ensures
    (told_all ∙ line_parts c.args.marks c.args.headings.now c.args.ran.now.number c.args.batches.now js rs es _ _ _ _ c.loop-i.i c.index-batches-i.result c.index-judgements-i.result c.index-replies-i.result c.index-effects-i.result c.loop-i.invariant here c.index-batches-i.is j_below c.index-judgements-i.is r_below c.index-replies-i.is e_below c.index-effects-i.is ∙ ap (λ (t : Text). (c.loop-i.invariant.front ++ t) ++ rest) (sym text))
