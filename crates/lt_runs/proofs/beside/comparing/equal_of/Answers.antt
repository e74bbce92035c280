use Rattle.std.proofs.Common.{◌≡◌, ◌+◌, ◌<◌, ◌++◌, ℕ, List, [], ◌∷◌, take, rules, sym, ap, subst, ◌∙◌, arith}
use Rattle.std.specs.Arc.{arc_value}
use Rattle.std.proofs.lemmas.List.{length-take-le, take_all, take_more}
use Rattle.lt_face.proofs.RowLemmas.{each_at}
use Rattle.lt_model.specs.declared.reply.Reply.{Reply}
use Rattle.lt_runs.specs.Reading.{CountsAll, IsRight, MayCompare}
use Rattle.lt_runs.proofs.Compared.{counts_more, counts_none}
use Rattle.lt_runs.proofs.beside.comparing.equal_of.Goals as goal

pub loop-answer-init : goal.loop-answer-init
loop-answer-init g c = counts_none (IsRight (arc_value c.args.asked.now) c.args.versions.now)

pub is_equal-requires-clause-fits : goal.is_equal-requires-clause-fits
is_equal-requires-clause-fits g c = λ lifetimes outlive.
    let P : ℕ × Reply → Type 0 = λ answer. MayCompare (arc_value c.args.asked.now) c.args.versions.now answer.0 in
    subst P (sym c.answer-item.is) (each_at P c.args.answers.now c.loop-answer.answer-index c.answer-item.result c.requires.fits c.loop-answer-test.true)

pub counted-equal-requires : goal.counted-equal-requires
counted-equal-requires g c =
    let here : c.loop-answer.answer-index < 18446744073709551615 = search rules in
    let n = length-take-le c.loop-answer.answer-index c.args.answers.now (omega (arith, c.loop-answer-test.true)) in
    omega (arith, here, n, c.loop-answer.invariant.within)

pub loop-answer-preserved : goal.loop-answer-preserved
loop-answer-preserved g c =
    let P : ℕ × Reply → Type 0 = IsRight (arc_value c.args.asked.now) c.args.versions.now in
    let before = take c.loop-answer.answer-index c.args.answers.now in
    let more : take (c.loop-answer.answer-index + 1) c.args.answers.now ≡ before ++ c.answer-item.result ∷ [] =
    take_more c.args.answers.now c.loop-answer.answer-index c.answer-item.result c.loop-answer-test.true ∙ ap (λ x. before ++ x ∷ []) (sym c.answer-item.is) in
    subst (λ xs. CountsAll P xs c.counted-equal.result) (sym more)
    (counts_more P before c.answer-item.result c.in_ok-same.same c.loop-answer.equal c.counted-equal.result c.in_ok-same.ensures c.counted-equal.ensures.more c.counted-equal.ensures.same c.loop-answer.invariant)

pub returns : goal.returns
returns g c =
    let whole : take c.loop-answer.answer-index c.args.answers.now ≡ c.args.answers.now = take_all c.loop-answer.answer-index c.args.answers.now c.loop-answer-test.false in
    subst (λ (xs : List (ℕ × Reply)). CountsAll (IsRight (arc_value c.args.asked.now) c.args.versions.now) xs c.loop-answer.equal) whole c.loop-answer.invariant
