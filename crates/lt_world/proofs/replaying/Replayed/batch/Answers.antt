use Rattle.std.proofs.Common.{◌≡◌, ◌++◌, ◌∙◌, List, length, map, slice_get, inl, inr, ap, sym, subst}
use Rattle.std.proofs.KnownBytes.{Keeps-refl}
use Rattle.std.proofs.lemmas.Result.{err_from_is_err_and}
use Rattle.lt_model.specs.Report.{batch_text, version_text}
use Rattle.lt_model.specs.Schema.{Schema}
use Rattle.lt_model.specs.declared.syntax.Item.TheVariants.{Batch}
use Rattle.lt_blocks.specs.declared.block.Block.{Block}
use Rattle.lt_world.specs.Batches.{checked_of, told}
use Rattle.lt_world.specs.Replays.{begun_at, IsRightAt, IsWrongAt}
use Rattle.lt_world.specs.World.{said}
use Rattle.lt_world.proofs.Batches.{run_by, run_said}
use Rattle.lt_world.proofs.Replayed.{all_replayed, no_write, none_replayed, on_err, passed_on, replay_failed}
use Rattle.lt_world.proofs.replaying.Replayed.batch.Goals as goal

pub returns-in_err-ran-clause-wrong : goal.returns-in_err-ran-clause-wrong
returns-in_err-ran-clause-wrong g c =
    let p = err_from_is_err_and c.from_residual.result c.from_residual.ensures.1 in
    passed_on _ c.from_residual.result p.0 c.in_err-ran.field-0.0 p.1 p.2
    (λ place bad m s. subst (λ (bs : List Block). IsWrongAt (begun_at m c.args.programs.now) (slice_get bs (length m.versions)) place) c.deref.ensures.value (c.in_err-ran.ensures.wrong place bad m s))

pub returns-in_err-ran-clause-kept : goal.returns-in_err-ran-clause-kept
returns-in_err-ran-clause-kept g c =
    let p = err_from_is_err_and c.from_residual.result c.from_residual.ensures.1 in
    passed_on _ c.from_residual.result p.0 c.in_err-ran.field-0.0 p.1 p.2 (λ place bad. c.in_err-ran.ensures.kept_versions)

pub returns-in_err-ran-clause-text : goal.returns-in_err-ran-clause-text
returns-in_err-ran-clause-text g c = λ m s.
    let p = err_from_is_err_and c.from_residual.result c.from_residual.ensures.1 in
    none_replayed c.from_residual.result p.0 c.in_err-ran.field-0.0 _ _ _ p.1 p.2 c.in_err-ran.ensures.unwritten

pub returns-in_err-ran-clause-part : goal.returns-in_err-ran-clause-part
returns-in_err-ran-clause-part g c = on_err c.from_residual.result (λ m s. inr (Keeps-refl (g.K.Sink.holds c.args.sink.now)))

pub returns-in_err-put_ran-clause-part : goal.returns-in_err-put_ran-clause-part
returns-in_err-put_ran-clause-part g c =
    on_err c.from_residual-in_err-put_ran.result
    (λ m s. inl (subst (λ (bs : List Block). IsRightAt (begun_at m c.args.programs.now) (slice_get bs (length m.versions))) c.deref.ensures.value (c.in_ok-ran.ensures.right m s)))

pub returns-in_err-put_ran-clause-wrong : goal.returns-in_err-put_ran-clause-wrong
returns-in_err-put_ran-clause-wrong g c =
    let r = c.from_residual-in_err-put_ran in
    let p = err_from_is_err_and r.result r.ensures.1 in
    no_write _ r.result p.0 p.1 p.2

pub returns-in_err-put_ran-clause-kept : goal.returns-in_err-put_ran-clause-kept
returns-in_err-put_ran-clause-kept g c =
    let r = c.from_residual-in_err-put_ran in
    let p = err_from_is_err_and r.result r.ensures.1 in
    no_write _ r.result p.0 p.1 p.2

pub returns-in_err-put_ran-clause-text : goal.returns-in_err-put_ran-clause-text
returns-in_err-put_ran-clause-text g c = λ m s.
    let r = c.from_residual-in_err-put_ran in
    let p = err_from_is_err_and r.result r.ensures.1 in
    let ran = c.in_ok-ran.ran in
    let same : said c.args.marks m (Batch c.args.programs.now) ≡ batch_text ran.number ++ told c.args.marks c.headings.result.now c.args.programs.now (map checked_of ran.judgements.items) ran.replies ran.effects ++ version_text ran.number =
    run_said c.args.marks c.args.self.now.world m s c.args.programs.now ran (run_by c.args.marks c.args.self.now.world c.args.programs.now ran c.in_ok-ran.ensures.ran)
    ∙ ap (λ (h : Schema). batch_text ran.number ++ told c.args.marks h c.args.programs.now (map checked_of ran.judgements.items) ran.replies ran.effects ++ version_text ran.number) (sym (c.headings.ensures.headings ∙ c.in_ok-ran.ensures.schema)) in
    replay_failed r.result p.0 _ _ _ _ _ _ _ p.1 p.2 c.in_err-put_ran.ensures same

pub returns-clause-right : goal.returns-clause-right
returns-clause-right g c = λ m s.
    subst (λ (bs : List Block). IsRightAt (begun_at m c.args.programs.now) (slice_get bs (length m.versions))) c.deref.ensures.value (c.in_ok-ran.ensures.right m s)

pub returns-clause-text : goal.returns-clause-text
returns-clause-text g c = λ m s.
    let ran = c.in_ok-ran.ran in
    let same : said c.args.marks m (Batch c.args.programs.now) ≡ batch_text ran.number ++ told c.args.marks c.headings.result.now c.args.programs.now (map checked_of ran.judgements.items) ran.replies ran.effects ++ version_text ran.number =
    run_said c.args.marks c.args.self.now.world m s c.args.programs.now ran (run_by c.args.marks c.args.self.now.world c.args.programs.now ran c.in_ok-ran.ensures.ran)
    ∙ ap (λ (h : Schema). batch_text ran.number ++ told c.args.marks h c.args.programs.now (map checked_of ran.judgements.items) ran.replies ran.effects ++ version_text ran.number) (sym (c.headings.ensures.headings ∙ c.in_ok-ran.ensures.schema)) in
    all_replayed _ _ _ _ _ _ _ _ c.in_ok-put_ran.ensures same
