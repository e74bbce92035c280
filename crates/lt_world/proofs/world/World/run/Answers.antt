use Rattle.std.proofs.Common.{◌≡◌, ◌≤◌, List, map, sym, ap, subst, ◌∙◌}
use Rattle.std.specs.Prelude.{filter_map}
use Rattle.std.specs.Arc.{arc_value}
use Rattle.std.specs.List.{AllByRecursion}
use Rattle.std.proofs.lemmas.List.{length-map}
use Rattle.lt_face.specs.State.{State}
use Rattle.lt_model.specs.declared.normal.Stmt.{Stmt}
use Rattle.lt_model.specs.declared.syntax.Program.{Program}
use Rattle.lt_model.specs.Check.{checked}
use Rattle.lt_model.specs.Fits.{Fits}
use Rattle.lt_model.specs.Report.{good_of}
use Rattle.lt_check.specs.States.{IsStateOf}
use Rattle.lt_base.specs.Tables.{state_of}
use Rattle.lt_batch.specs.Batch.{serial_state}
use Rattle.lt_world.specs.Batches.{checked_of, good_ones}
use Rattle.lt_world.proofs.Batches.{batch_shown, few_run, good_fit, run_is, widths_of}
use Rattle.lt_world.proofs.world.World.run.Goals as goal

pub fold_batch-requires-clause-few : goal.fold_batch-requires-clause-few
fold_batch-requires-clause-few g c = λ lifetimes outlive.
    let judged : map checked_of c.deref.result.now ≡ map (λ (p : Program). checked p c.args.self.now.schema) c.args.programs.now =
    ap (λ js. map checked_of js) c.deref.ensures.value ∙ c.in_ok-judgements.ensures.checked in
    let good : map arc_value c.deref-2.result.now ≡ filter_map good_of (map checked_of c.deref.result.now) = ap (λ ps. map arc_value ps) c.deref-2.ensures.value ∙ c.in_ok-good.ensures in
    subst (λ n. n ≤ 256) (length-map c.deref-2.result.now arc_value) (few_run c.args.self.now.schema c.args.programs.now _ _ judged good c.requires.few)

pub fold_batch-requires-clause-fit : goal.fold_batch-requires-clause-fit
fold_batch-requires-clause-fit g c = λ lifetimes outlive.
    let state : State = state_of c.args.self.now.database in
    let widths : IsStateOf c.args.self.now.schema state = widths_of c.args.self.now c.requires.world.model c.requires.world.shows in
    let good : map arc_value c.deref-2.result.now ≡ filter_map good_of (map checked_of c.in_ok-judgements.judgements.items) =
    ap (λ ps. map arc_value ps) c.deref-2.ensures.value ∙ c.in_ok-good.ensures ∙ ap (λ js. filter_map good_of (map checked_of js)) c.deref.ensures.value in
    subst (AllByRecursion (Fits state)) (sym good) (good_fit state (map checked_of c.in_ok-judgements.judgements.items) (c.in_ok-judgements.ensures.fit state widths))

pub returns-clause-ran : goal.returns-clause-ran
returns-clause-ran g c =
    let judgements = c.in_ok-judgements.judgements.items in
    let good : map arc_value c.deref-2.result.now ≡ good_ones judgements =
    ap (λ ps. map arc_value ps) c.deref-2.ensures.value ∙ c.in_ok-good.ensures ∙ ap (λ js. filter_map good_of (map checked_of js)) c.deref.ensures.value in
    let out = c.in_ok-folded.ensures in
    run_is c.args.self.now c.requires.world.model c.requires.world.shows c.args.programs.now c.args.marks _ (map arc_value c.deref-2.result.now)
    c.next_number-number.ensures c.in_ok-judgements.ensures.checked good out.replies out.effects (out.each ∙ sym (length-map c.deref-2.result.now arc_value)) out.printed out.fit

pub returns-clause-world : goal.returns-clause-world
returns-clause-world g c = λ marks m s.
    let judgements = c.in_ok-judgements.judgements.items in
    let good : map arc_value c.deref-2.result.now ≡ good_ones judgements =
    ap (λ ps. map arc_value ps) c.deref-2.ensures.value ∙ c.in_ok-good.ensures ∙ ap (λ js. filter_map good_of (map checked_of js)) c.deref.ensures.value in
    batch_shown c.args.self.now m c.args.programs.now (map checked_of judgements) s c.in_ok-judgements.ensures.checked marks c.keep.new.self c.in_ok-folded.folded.db
    (c.in_ok-keep.ensures.schema ∙ c.judge_all.ensures.same) (c.in_ok-folded.ensures.state ∙ ap (λ (ps : List (List Stmt)). serial_state ps (state_of c.args.self.now.database)) good)
    c.in_ok-keep.ensures.database c.in_ok-keep.ensures.versions
