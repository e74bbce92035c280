use Rattle.std.proofs.Common.{◌≡◌, ◌∙◌, ap, sym, subst}
use Rattle.std.proofs.lemmas.Result.{err_from_is_err_and}
use Rattle.lt_model.specs.Schema.{Schema}
use Rattle.lt_world.specs.Lines.{checks_of, items_of, line_text, said_all, HaveAnswers}
use Rattle.lt_world.proofs.Lined.{line_said}
use Rattle.lt_world.proofs.Writing.{all_written, memory_refused, write_failed}
use Rattle.lt_world.proofs.world.World.line.Goals as goal

pub put_line-requires-clause-answers : goal.put_line-requires-clause-answers
put_line-requires-clause-answers g c =
    let ran = c.in_ok-ran.ran in
    subst (λ (h : Schema). HaveAnswers h c.args.batches.now ran.judgements.items ran.replies ran.effects) (sym (c.headings.ensures.headings ∙ c.in_ok-ran.ensures.schema)) c.in_ok-ran.ensures.ran.answers

pub returns-in_err-ran-clause-text : goal.returns-in_err-ran-clause-text
returns-in_err-ran-clause-text g c = λ m s.
    let p = err_from_is_err_and c.from_residual.result c.from_residual.ensures.1 in
    memory_refused c.from_residual.result p.0 _ _ _ p.1 p.2

pub returns-in_err-put_line-clause-text : goal.returns-in_err-put_line-clause-text
returns-in_err-put_line-clause-text g c = λ m s.
    let r = c.from_residual-in_err-put_line in
    let p = err_from_is_err_and r.result r.ensures.1 in
    let ran = c.in_ok-ran.ran in
    let same : said_all c.args.options.marks m (items_of c.args.batches.now) ≡ line_text c.args.options.marks c.headings.result.now ran.number c.args.batches.now (checks_of ran.judgements.items) ran.replies ran.effects =
    line_said c.args.options.marks c.args.self.now m s c.args.batches.now ran c.in_ok-ran.ensures.ran
    ∙ ap (λ (h : Schema). line_text c.args.options.marks h ran.number c.args.batches.now (checks_of ran.judgements.items) ran.replies ran.effects) (sym (c.headings.ensures.headings ∙ c.in_ok-ran.ensures.schema)) in
    write_failed r.result p.0 _ _ _ _ _ _ _ p.1 c.in_err-put_line.ensures same

pub returns-clause-text : goal.returns-clause-text
returns-clause-text g c = λ m s.
    let ran = c.in_ok-ran.ran in
    let same : said_all c.args.options.marks m (items_of c.args.batches.now) ≡ line_text c.args.options.marks c.headings.result.now ran.number c.args.batches.now (checks_of ran.judgements.items) ran.replies ran.effects =
    line_said c.args.options.marks c.args.self.now m s c.args.batches.now ran c.in_ok-ran.ensures.ran
    ∙ ap (λ (h : Schema). line_text c.args.options.marks h ran.number c.args.batches.now (checks_of ran.judgements.items) ran.replies ran.effects) (sym (c.headings.ensures.headings ∙ c.in_ok-ran.ensures.schema)) in
    all_written _ _ _ _ _ _ _ _ c.in_ok-put_line.ensures same
