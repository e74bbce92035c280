use Rattle.std.proofs.Common.{◌≡◌, ◌≤◌, ◌++◌, ◌∷◌, [], ◌∙◌, length, map, refl, true, ap, sym, arith}
use Rattle.std.proofs.lemmas.Result.{err_from_is_err_and}
use Rattle.lt_model.specs.Report.{batch_text, version_text}
use Rattle.lt_model.specs.Schema.{Schema}
use Rattle.lt_model.specs.declared.syntax.Item.TheVariants.{Batch}
use Rattle.lt_world.specs.Batches.{checked_of, good_ones, told}
use Rattle.lt_world.specs.World.{said}
use Rattle.lt_world.proofs.Batches.{few_run, run_by, run_said}
use Rattle.lt_world.proofs.Traced.{block_is, replied}
use Rattle.lt_world.proofs.Writing.{all_written, memory_refused, refused_behind, write_failed}
use Rattle.lt_world.proofs.tracing.Traced.batch.Goals as goal

pub returns-in_err-whole-clause-text : goal.returns-in_err-whole-clause-text
returns-in_err-whole-clause-text g c = λ m s.
    let p = err_from_is_err_and c.from_residual.result c.from_residual.ensures.1 in
    memory_refused c.from_residual.result p.0 _ _ _ p.1 p.2

pub returns-in_err-put_ran-clause-text : goal.returns-in_err-put_ran-clause-text
returns-in_err-put_ran-clause-text g c = λ m s.
    let r = c.from_residual-in_err-put_ran in
    let p = err_from_is_err_and r.result r.ensures.1 in
    let ran = c.in_ok-whole.whole.ran in
    let same : said c.args.options.marks m (Batch c.args.programs.now) ≡ batch_text ran.number ++ told c.args.options.marks c.headings-headings.result.now c.args.programs.now (map checked_of ran.judgements.items) ran.replies ran.effects ++ version_text ran.number =
    run_said c.args.options.marks c.args.self.now.world m s c.args.programs.now ran (run_by c.args.options.marks c.args.self.now.world c.args.programs.now ran c.in_ok-whole.ensures.ran)
    ∙ ap (λ (h : Schema). batch_text ran.number ++ told c.args.options.marks h c.args.programs.now (map checked_of ran.judgements.items) ran.replies ran.effects ++ version_text ran.number) (sym (c.headings-headings.ensures.headings ∙ c.in_ok-whole.ensures.schema)) in
    write_failed r.result p.0 _ _ _ _ _ _ _ p.1 c.in_err-put_ran.ensures same

pub returns-in_err-keep_block-clause-text : goal.returns-in_err-keep_block-clause-text
returns-in_err-keep_block-clause-text g c = λ m s.
    let r = c.from_residual-in_err-keep_block in
    let p = err_from_is_err_and r.result r.ensures.1 in
    let ran = c.in_ok-whole.whole.ran in
    let same : said c.args.options.marks m (Batch c.args.programs.now) ≡ batch_text ran.number ++ told c.args.options.marks c.headings-headings.result.now c.args.programs.now (map checked_of ran.judgements.items) ran.replies ran.effects ++ version_text ran.number =
    run_said c.args.options.marks c.args.self.now.world m s c.args.programs.now ran (run_by c.args.options.marks c.args.self.now.world c.args.programs.now ran c.in_ok-whole.ensures.ran)
    ∙ ap (λ (h : Schema). batch_text ran.number ++ told c.args.options.marks h c.args.programs.now (map checked_of ran.judgements.items) ran.replies ran.effects ++ version_text ran.number) (sym (c.headings-headings.ensures.headings ∙ c.in_ok-whole.ensures.schema)) in
    refused_behind r.result p.0 _ _ _ _ _ _ _ p.1 p.2 c.in_ok-put_ran.ensures same

pub returns-clause-text : goal.returns-clause-text
returns-clause-text g c = λ m s.
    let ran = c.in_ok-whole.whole.ran in
    let same : said c.args.options.marks m (Batch c.args.programs.now) ≡ batch_text ran.number ++ told c.args.options.marks c.headings-headings.result.now c.args.programs.now (map checked_of ran.judgements.items) ran.replies ran.effects ++ version_text ran.number =
    run_said c.args.options.marks c.args.self.now.world m s c.args.programs.now ran (run_by c.args.options.marks c.args.self.now.world c.args.programs.now ran c.in_ok-whole.ensures.ran)
    ∙ ap (λ (h : Schema). batch_text ran.number ++ told c.args.options.marks h c.args.programs.now (map checked_of ran.judgements.items) ran.replies ran.effects ++ version_text ran.number) (sym (c.headings-headings.ensures.headings ∙ c.in_ok-whole.ensures.schema)) in
    all_written _ _ _ _ _ _ _ _ c.in_ok-put_ran.ensures same

pub keep_block-requires-clause-leaves : goal.keep_block-requires-clause-leaves
keep_block-requires-clause-leaves g c =
    let ran = c.in_ok-whole.ensures.ran in
    let goods = good_ones c.in_ok-whole.whole.ran.judgements.items in
    let few : length goods ≤ 256 = few_run c.args.self.now.world.schema c.args.programs.now (map checked_of c.in_ok-whole.whole.ran.judgements.items) goods ran.checks refl c.requires.few in
    omega (arith, c.in_ok-whole.ensures.circuit.leaves, few)

pub keep_block-requires-clause-replies : goal.keep_block-requires-clause-replies
keep_block-requires-clause-replies g c =
    let ran = c.in_ok-whole.ensures.ran in
    let goods = good_ones c.in_ok-whole.whole.ran.judgements.items in
    let few : length goods ≤ 256 = few_run c.args.self.now.world.schema c.args.programs.now (map checked_of c.in_ok-whole.whole.ran.judgements.items) goods ran.checks refl c.requires.few in
    omega (arith, replied c.args.self.now.world c.args.programs.now true c.in_ok-whole.whole.ran ran, few)

pub returns-clause-block : goal.returns-clause-block
returns-clause-block g c = λ m s. (
  _ ∷ [],
  c.in_ok-keep_block.ensures,
  (block_is c.args.self.now.world m s c.args.programs.now c.in_ok-whole.whole.ran c.in_ok-whole.whole.circuit c.in_ok-whole.ensures.ran c.in_ok-whole.ensures.circuit, tt),
)
