use Rattle.std.proofs.Common.{◌≡◌, ◌≤◌, ◌∙◌, List, ℕ, true, length, map, refl, slice_get, sym, ap, subst, arith}
use Rattle.std.specs.Prelude.{filter_map}
use Rattle.std.specs.Arc.{arc_value}
use Rattle.std.specs.List.{AllByRecursion}
use Rattle.std.proofs.lemmas.List.{length-map}
use Rattle.std.proofs.lemmas.Result.{err_from_is_err_and}
use Rattle.lt_face.specs.State.{State}
use Rattle.lt_model.specs.declared.normal.Stmt.{Stmt}
use Rattle.lt_model.specs.declared.syntax.Program.{Program}
use Rattle.lt_model.specs.Check.{checked}
use Rattle.lt_model.specs.Fits.{Fits}
use Rattle.lt_model.specs.Schema.{Schema}
use Rattle.lt_model.specs.declared.syntax.Item.TheVariants.{Batch}
use Rattle.lt_model.specs.Report.{good_of}
use Rattle.lt_check.specs.States.{IsStateOf}
use Rattle.lt_base.specs.Tables.{state_of}
use Rattle.lt_batch.specs.declared.replaying.Written.{Written}
use Rattle.lt_world.specs.Batches.{checked_of, good_ones}
use Rattle.lt_world.specs.Outcomes.{IsOutcome}
use Rattle.lt_world.proofs.SameWorld.{run_before, takes_before, world_too}
use Rattle.lt_world.specs.Replays.{begun_at, HasJournal, IsWrongAt}
use Rattle.lt_world.proofs.Batches.{few_run, good_fit, widths_of}
use Rattle.lt_world.proofs.Replayed.{fault_unwritten, faulty, goods_are, memory_unwritten, no_memory, none_at, right_at, settled_by, wrong_at}
use Rattle.lt_world.proofs.Versions.{count}
use Rattle.lt_world.proofs.world.World.replay.Goals as goal

pub replay_batch-requires-clause-few : goal.replay_batch-requires-clause-few
replay_batch-requires-clause-few g c = λ lifetimes outlive.
    let judged : map checked_of c.deref.result.now ≡ map (λ (p : Program). checked p c.args.self.now.schema) c.args.programs.now =
    ap (λ js. map checked_of js) c.deref.ensures.value ∙ c.in_ok-judgements.ensures.checked in
    let good : map arc_value c.deref-2.result.now ≡ filter_map good_of (map checked_of c.deref.result.now) = ap (λ ps. map arc_value ps) c.deref-2.ensures.value ∙ c.in_ok-good.ensures in
    subst (λ n. n ≤ 256) (length-map c.deref-2.result.now arc_value) (few_run c.args.self.now.schema c.args.programs.now _ _ judged good c.requires.few)

pub replay_batch-requires-clause-fit : goal.replay_batch-requires-clause-fit
replay_batch-requires-clause-fit g c = λ lifetimes outlive.
    let state : State = state_of c.args.self.now.database in
    let widths : IsStateOf c.args.self.now.schema state = widths_of c.args.self.now c.requires.world.model c.requires.world.shows in
    let good : map arc_value c.deref-2.result.now ≡ filter_map good_of (map checked_of c.in_ok-judgements.judgements.items) =
    ap (λ ps. map arc_value ps) c.deref-2.ensures.value ∙ c.in_ok-good.ensures ∙ ap (λ js. filter_map good_of (map checked_of js)) c.deref.ensures.value in
    subst (AllByRecursion (Fits state)) (sym good) (good_fit state (map checked_of c.in_ok-judgements.judgements.items) (c.in_ok-judgements.ensures.fit state widths))

pub keep_outcome-requires-clause-world : goal.keep_outcome-requires-clause-world
keep_outcome-requires-clause-world g c = world_too c.args.self.now _ c.judge_all.ensures.same refl refl c.requires.world

pub keep_outcome-requires-clause-outcome : goal.keep_outcome-requires-clause-outcome
keep_outcome-requires-clause-outcome g c =
    let state : State = state_of c.args.self.now.database in
    let good : map arc_value c.deref-2.result.now ≡ good_ones c.in_ok-judgements.judgements.items =
    ap (λ ps. map arc_value ps) c.deref-2.ensures.value ∙ c.in_ok-good.ensures ∙ ap (λ js. filter_map good_of (map checked_of js)) c.deref.ensures.value in
    let ran = c.in_ok-outcome.ensures in
    subst (λ (ps : List (List Stmt)). IsOutcome ps state c.in_ok-outcome.outcome) good (record {
      replies = ran.replies;
      effects = ran.effects;
      state_is = ran.state;
      printed = ran.printed;
      fit = ran.fit;
      circuit = record { leaves = ran.leaves ∙ sym (length-map c.deref-2.result.now arc_value); settled = ran.settled; journal = ran.journal; workers = ran.workers };
    })

pub returns-clause-ran : goal.returns-clause-ran
returns-clause-ran g c =
    run_before c.args.self.now _ c.judge_all.ensures.same refl refl c.args.programs.now true c.in_ok-whole.whole.ran
    (c.in_ok-whole.ensures.ran c.args.programs.now (c.in_ok-judgements.ensures.checked ∙ ap (λ (h : Schema). map (λ (p : Program). checked p h) c.args.programs.now) (sym c.judge_all.ensures.same)))

pub returns-clause-world : goal.returns-clause-world
returns-clause-world g c =
    takes_before c.args.self.now _ c.judge_all.ensures.same refl refl (Batch c.args.programs.now) c.keep_outcome.new.self
    (c.in_ok-whole.ensures.world c.args.programs.now (c.in_ok-judgements.ensures.checked ∙ ap (λ (h : Schema). map (λ (p : Program). checked p h) c.args.programs.now) (sym c.judge_all.ensures.same)))

pub returns-in_err-judgements-clause-wrong : goal.returns-in_err-judgements-clause-wrong
returns-in_err-judgements-clause-wrong g c =
    let p = err_from_is_err_and c.from_residual.result c.from_residual.ensures.1 in
    no_memory _ c.from_residual.result p.0 p.1 p.2

pub returns-in_err-judgements-clause-unwritten : goal.returns-in_err-judgements-clause-unwritten
returns-in_err-judgements-clause-unwritten g c =
    let p = err_from_is_err_and c.from_residual.result c.from_residual.ensures.1 in
    memory_unwritten c.from_residual.result p.0 p.1 p.2

pub returns-in_err-good-clause-wrong : goal.returns-in_err-good-clause-wrong
returns-in_err-good-clause-wrong g c =
    let p = err_from_is_err_and c.from_residual-in_err-good.result c.from_residual-in_err-good.ensures.1 in
    no_memory _ c.from_residual-in_err-good.result p.0 p.1 p.2

pub returns-in_err-good-clause-unwritten : goal.returns-in_err-good-clause-unwritten
returns-in_err-good-clause-unwritten g c =
    let p = err_from_is_err_and c.from_residual-in_err-good.result c.from_residual-in_err-good.ensures.1 in
    memory_unwritten c.from_residual-in_err-good.result p.0 p.1 p.2

pub journal_of-requires : goal.journal_of-requires
journal_of-requires g c = omega (arith, count c.requires.world.model c.args.self.now.versions c.requires.world.shows.versions, c.next_number-number.ensures)

pub returns-in_default-clause-wrong : goal.returns-in_default-clause-wrong
returns-in_default-clause-wrong g c = λ place bad m s.
    let goods : List (List Stmt) = good_ones c.in_ok-judgements.judgements.items in
    let same = goods_are c.args.self.now m s c.args.programs.now (map checked_of c.in_ok-judgements.judgements.items) goods c.in_ok-judgements.ensures.checked refl in
    let all : c.len.result ≡ length c.in_ok-good.good.items = omega (arith, c.len.ensures) in
    let many : c.len.result ≡ length goods = all ∙ sym (length-map c.in_ok-good.good.items arc_value) ∙ ap (λ (ps : List (List Stmt)). length ps) (c.in_ok-good.ensures ∙ ap (λ js. filter_map good_of (map checked_of js)) c.deref.ensures.value) in
    let zero : 0 ≡ place = cc in
    subst (λ (n : ℕ). IsWrongAt (begun_at m c.args.programs.now) (slice_get c.args.blocks.now (length m.versions)) n) zero
    (none_at c.args.self.now m s c.args.programs.now goods same c.args.blocks.now
    (subst (λ (n : ℕ). (entries : List Written) → HasJournal c.args.blocks.now (length c.args.self.now.versions) n entries → ⊥) many
    (subst (λ (n : ℕ). (entries : List Written) → HasJournal c.args.blocks.now n c.len.result entries → ⊥) c.next_number-number.ensures c.in_default.ensures.none)))

pub returns-in_err-outcome-clause-wrong : goal.returns-in_err-outcome-clause-wrong
returns-in_err-outcome-clause-wrong g c =
    let r = c.from_residual-in_err-outcome in
    let p = err_from_is_err_and r.result r.ensures.1 in
    faulty _ r.result p.0 c.in_err-outcome.field-0.0 p.1 p.2 (λ place is m s.
    let goods : List (List Stmt) = map arc_value c.deref-2.result.now in
    let good : goods ≡ filter_map good_of (map checked_of c.in_ok-judgements.judgements.items) =
    ap (λ ps. map arc_value ps) c.deref-2.ensures.value ∙ c.in_ok-good.ensures ∙ ap (λ js. filter_map good_of (map checked_of js)) c.deref.ensures.value in
    let same = goods_are c.args.self.now m s c.args.programs.now (map checked_of c.in_ok-judgements.judgements.items) goods c.in_ok-judgements.ensures.checked good in
    let all : c.len.result ≡ length c.in_ok-good.good.items = omega (arith, c.len.ensures) in
    let many : c.len.result ≡ length goods = all ∙ sym (length-map c.in_ok-good.good.items arc_value) ∙ ap (λ ps. length (map arc_value ps)) (sym c.deref-2.ensures.value) in
    let journal : HasJournal c.args.blocks.now (length c.args.self.now.versions) (length goods) c.in-Some.entries.now =
    subst (λ (n : ℕ). HasJournal c.args.blocks.now (length c.args.self.now.versions) n c.in-Some.entries.now) many
    (subst (λ (n : ℕ). HasJournal c.args.blocks.now n c.len.result c.in-Some.entries.now) c.next_number-number.ensures c.in-Some.ensures.some) in
    wrong_at c.args.self.now m s c.args.programs.now goods same c.args.blocks.now c.in-Some.entries.now journal place (c.in_err-outcome.ensures.fault place is))

pub returns-in_err-outcome-clause-unwritten : goal.returns-in_err-outcome-clause-unwritten
returns-in_err-outcome-clause-unwritten g c =
    let r = c.from_residual-in_err-outcome in
    let p = err_from_is_err_and r.result r.ensures.1 in
    fault_unwritten r.result p.0 c.in_err-outcome.field-0.0 p.1 p.2

pub returns-in_err-whole-clause-wrong : goal.returns-in_err-whole-clause-wrong
returns-in_err-whole-clause-wrong g c =
    let p = err_from_is_err_and c.from_residual-in_err-whole.result c.from_residual-in_err-whole.ensures.1 in
    no_memory _ c.from_residual-in_err-whole.result p.0 p.1 p.2

pub returns-in_err-whole-clause-unwritten : goal.returns-in_err-whole-clause-unwritten
returns-in_err-whole-clause-unwritten g c =
    let p = err_from_is_err_and c.from_residual-in_err-whole.result c.from_residual-in_err-whole.ensures.1 in
    memory_unwritten c.from_residual-in_err-whole.result p.0 p.1 p.2

pub returns-clause-right : goal.returns-clause-right
returns-clause-right g c = λ m s.
    let goods : List (List Stmt) = map arc_value c.deref-2.result.now in
    let good : goods ≡ filter_map good_of (map checked_of c.in_ok-judgements.judgements.items) =
    ap (λ ps. map arc_value ps) c.deref-2.ensures.value ∙ c.in_ok-good.ensures ∙ ap (λ js. filter_map good_of (map checked_of js)) c.deref.ensures.value in
    let same = goods_are c.args.self.now m s c.args.programs.now (map checked_of c.in_ok-judgements.judgements.items) goods c.in_ok-judgements.ensures.checked good in
    let all : c.len.result ≡ length c.in_ok-good.good.items = omega (arith, c.len.ensures) in
    let many : c.len.result ≡ length goods = all ∙ sym (length-map c.in_ok-good.good.items arc_value) ∙ ap (λ ps. length (map arc_value ps)) (sym c.deref-2.ensures.value) in
    let journal : HasJournal c.args.blocks.now (length c.args.self.now.versions) (length goods) c.in-Some.entries.now =
    subst (λ (n : ℕ). HasJournal c.args.blocks.now (length c.args.self.now.versions) n c.in-Some.entries.now) many
    (subst (λ (n : ℕ). HasJournal c.args.blocks.now n c.len.result c.in-Some.entries.now) c.next_number-number.ensures c.in-Some.ensures.some) in
    let ran = c.in_ok-outcome.ensures in
    let settled = settled_by goods (state_of c.args.self.now.database) c.in_ok-outcome.outcome.circuit c.in-Some.entries.now
    (record { leaves = ran.leaves ∙ sym (length-map c.deref-2.result.now arc_value); settled = ran.settled; journal = ran.journal; workers = ran.workers }) ran.entries in
    right_at c.args.self.now m s c.args.programs.now goods same c.args.blocks.now c.in-Some.entries.now journal settled ran.faultless
