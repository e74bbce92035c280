use Rattle.std.proofs.Common.{◌≡◌, ◌++◌, ◌∙◌, map, ap, sym}
use Rattle.std.proofs.lemmas.Result.{err_from_is_err_and}
use Rattle.lt_model.specs.Report.{batch_text, version_text}
use Rattle.lt_model.specs.Check.{checked}
use Rattle.lt_model.specs.Schema.{Schema}
use Rattle.lt_model.specs.declared.syntax.Program.{Program}
use Rattle.lt_model.specs.declared.syntax.Item.TheVariants.{Batch}
use Rattle.lt_world.specs.Batches.{checked_of, told}
use Rattle.lt_world.specs.World.{said}
use Rattle.lt_world.proofs.Batches.{run_said}
use Rattle.lt_world.proofs.Writing.{all_written, memory_refused, write_failed}
use Rattle.lt_world.proofs.world.World.answer.Goals as goal

pub returns-clause-checked : goal.returns-clause-checked
returns-clause-checked g c = c.in_ok-ran.ensures.ran.checks ∙ ap (λ (h : Schema). map (λ (p : Program). checked p h) c.args.programs.now) (sym c.in_ok-ran.ensures.schema)

pub returns-in_err-ran-clause-text : goal.returns-in_err-ran-clause-text
returns-in_err-ran-clause-text g c = λ m s.
    let p = err_from_is_err_and c.from_residual.result c.from_residual.ensures.1 in
    memory_refused c.from_residual.result p.0 _ _ _ p.1 p.2

pub returns-in_err-put_ran-clause-text : goal.returns-in_err-put_ran-clause-text
returns-in_err-put_ran-clause-text g c = λ m s.
    let r = c.from_residual-in_err-put_ran in
    let p = err_from_is_err_and r.result r.ensures.1 in
    let ran = c.in_ok-ran.ran in
    let same : said c.args.options.marks m (Batch c.args.programs.now) ≡ batch_text ran.number ++ told c.args.options.marks c.headings.result.now c.args.programs.now (map checked_of ran.judgements.items) ran.replies ran.effects ++ version_text ran.number =
    run_said c.args.options.marks c.args.self.now m s c.args.programs.now ran c.in_ok-ran.ensures.ran
    ∙ ap (λ (h : Schema). batch_text ran.number ++ told c.args.options.marks h c.args.programs.now (map checked_of ran.judgements.items) ran.replies ran.effects ++ version_text ran.number) (sym (c.headings.ensures.headings ∙ c.in_ok-ran.ensures.schema)) in
    write_failed r.result p.0 _ _ _ _ _ _ _ p.1 c.in_err-put_ran.ensures same

pub returns-clause-text : goal.returns-clause-text
returns-clause-text g c = λ m s.
    let ran = c.in_ok-ran.ran in
    let same : said c.args.options.marks m (Batch c.args.programs.now) ≡ batch_text ran.number ++ told c.args.options.marks c.headings.result.now c.args.programs.now (map checked_of ran.judgements.items) ran.replies ran.effects ++ version_text ran.number =
    run_said c.args.options.marks c.args.self.now m s c.args.programs.now ran c.in_ok-ran.ensures.ran
    ∙ ap (λ (h : Schema). batch_text ran.number ++ told c.args.options.marks h c.args.programs.now (map checked_of ran.judgements.items) ran.replies ran.effects ++ version_text ran.number) (sym (c.headings.ensures.headings ∙ c.in_ok-ran.ensures.schema)) in
    all_written _ _ _ _ _ _ _ _ c.in_ok-put_ran.ensures same
