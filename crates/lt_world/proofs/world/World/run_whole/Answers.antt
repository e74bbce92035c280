use Rattle.std.proofs.Common.{◌≡◌, ◌≤◌, List, true, map, refl, sym, ap, subst, ◌∙◌}
use Rattle.std.specs.Prelude.{filter_map}
use Rattle.std.specs.Arc.{arc_value}
use Rattle.std.specs.List.{AllByRecursion}
use Rattle.std.proofs.lemmas.List.{length-map}
use Rattle.lt_face.specs.State.{State}
use Rattle.lt_model.specs.declared.normal.Stmt.{Stmt}
use Rattle.lt_model.specs.declared.syntax.Program.{Program}
use Rattle.lt_model.specs.Check.{checked}
use Rattle.lt_model.specs.Fits.{Fits}
use Rattle.lt_model.specs.Schema.{Schema}
use Rattle.lt_model.specs.declared.syntax.Item.TheVariants.{Batch}
use Rattle.lt_model.specs.Report.{good_of}
use Rattle.lt_check.specs.States.{IsStateOf}
use Rattle.lt_base.specs.Tables.{state_of}
use Rattle.lt_world.specs.Batches.{checked_of, good_ones}
use Rattle.lt_world.specs.Outcomes.{IsOutcome}
use Rattle.lt_world.proofs.SameWorld.{run_before, takes_before, world_too}
use Rattle.lt_world.proofs.Batches.{few_run, good_fit, widths_of}
use Rattle.lt_world.proofs.world.World.run_whole.Goals as goal

pub run_batch-requires-clause-few : goal.run_batch-requires-clause-few
run_batch-requires-clause-few g c = λ lifetimes outlive.
    let judged : map checked_of c.deref.result.now ≡ map (λ (p : Program). checked p c.args.self.now.schema) c.args.programs.now =
    ap (λ js. map checked_of js) c.deref.ensures.value ∙ c.in_ok-judgements.ensures.checked in
    let good : map arc_value c.deref-2.result.now ≡ filter_map good_of (map checked_of c.deref.result.now) = ap (λ ps. map arc_value ps) c.deref-2.ensures.value ∙ c.in_ok-good.ensures in
    subst (λ n. n ≤ 256) (length-map c.deref-2.result.now arc_value) (few_run c.args.self.now.schema c.args.programs.now _ _ judged good c.requires.few)

pub run_batch-requires-clause-fit : goal.run_batch-requires-clause-fit
run_batch-requires-clause-fit g c = λ lifetimes outlive.
    let state : State = state_of c.args.self.now.database in
    let widths : IsStateOf c.args.self.now.schema state = widths_of c.args.self.now c.requires.world.model c.requires.world.shows in
    let good : map arc_value c.deref-2.result.now ≡ filter_map good_of (map checked_of c.in_ok-judgements.judgements.items) =
    ap (λ ps. map arc_value ps) c.deref-2.ensures.value ∙ c.in_ok-good.ensures ∙ ap (λ js. filter_map good_of (map checked_of js)) c.deref.ensures.value in
    subst (AllByRecursion (Fits state)) (sym good) (good_fit state (map checked_of c.in_ok-judgements.judgements.items) (c.in_ok-judgements.ensures.fit state widths))

pub keep_outcome-requires-clause-world : goal.keep_outcome-requires-clause-world
keep_outcome-requires-clause-world g c = world_too c.args.self.now _ c.judge_all.ensures.same refl refl c.requires.world

pub keep_outcome-requires-clause-outcome : goal.keep_outcome-requires-clause-outcome
keep_outcome-requires-clause-outcome g c =
    let state : State = state_of c.args.self.now.database in
    let good : map arc_value c.deref-2.result.now ≡ good_ones c.in_ok-judgements.judgements.items =
    ap (λ ps. map arc_value ps) c.deref-2.ensures.value ∙ c.in_ok-good.ensures ∙ ap (λ js. filter_map good_of (map checked_of js)) c.deref.ensures.value in
    let ran = c.in_ok-outcome.ensures in
    subst (λ (ps : List (List Stmt)). IsOutcome ps state c.in_ok-outcome.outcome) good (record {
      replies = ran.replies;
      effects = ran.effects;
      state_is = ran.state;
      printed = ran.printed;
      fit = ran.fit;
      circuit = record { leaves = ran.leaves ∙ sym (length-map c.deref-2.result.now arc_value); settled = ran.settled; journal = ran.journal; workers = ran.workers };
    })

pub returns-clause-ran : goal.returns-clause-ran
returns-clause-ran g c =
    run_before c.args.self.now _ c.judge_all.ensures.same refl refl c.args.programs.now true c.in_ok-whole.whole.ran
    (c.in_ok-whole.ensures.ran c.args.programs.now (c.in_ok-judgements.ensures.checked ∙ ap (λ (h : Schema). map (λ (p : Program). checked p h) c.args.programs.now) (sym c.judge_all.ensures.same)))

pub returns-clause-world : goal.returns-clause-world
returns-clause-world g c =
    takes_before c.args.self.now _ c.judge_all.ensures.same refl refl (Batch c.args.programs.now) c.keep_outcome.new.self
    (c.in_ok-whole.ensures.world c.args.programs.now (c.in_ok-judgements.ensures.checked ∙ ap (λ (h : Schema). map (λ (p : Program). checked p h) c.args.programs.now) (sym c.judge_all.ensures.same)))
