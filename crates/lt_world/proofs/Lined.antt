-- Batches that follow each other by the report's definition, one after another, and as one line.
use Rattle.std.proofs.Common.{◌≡◌, ◌∙◌, ◌+◌, ◌≤◌, ℕ, Bool, List, [], ◌∷◌, ◌++◌, length, map, refl, sym, ap, subst, append-nil, append_assoc, ◌<◌, get_or, zero, suc, arith}
use Rattle.std.specs.Prelude.{filter_map, fold}
use Rattle.std.specs.Global.{Vec}
use Rattle.std.specs.List.{AllByRecursion}
use Rattle.std.proofs.lemmas.List.{length-append, length-map}
use Rattle.lt_face.specs.State.{State}
use Rattle.lt_model.specs.declared.kind.Kind.{Kind}
use Rattle.lt_model.specs.declared.normal.Stmt.{Stmt}
use Rattle.lt_model.specs.declared.reply.Reply.{Reply}
use Rattle.lt_model.specs.declared.syntax.Item.TheVariants.{Batch}
use Rattle.lt_model.specs.declared.syntax.Program.{Program}
use Rattle.lt_model.specs.Check.{Checked, checked}
use Rattle.lt_model.specs.Fits.{FitMarks, Fits}
use Rattle.lt_model.specs.Limits.{IsWithinLimits}
use Rattle.lt_model.specs.Marks.{Marks}
use Rattle.lt_model.specs.Report as model
use Rattle.lt_model.specs.Report.{Text, batch_text, done_text, good_of, programs_text, step, version_text, with_batch}
use Rattle.lt_model.specs.Schema.{Schema}
use Rattle.lt_model.specs.Serial.{serial}
use Rattle.lt_base.specs.Tables.{Table, state_of}
use Rattle.lt_batch.specs.Batch.{serial_state}
use Rattle.lt_check.specs.States.{IsStateOf}
use Rattle.lt_batch.specs.Line.{last_state, line_effects, line_replies, line_states}
use Rattle.lt_program.specs.Run.{AreReplied}
use Rattle.lt_world.specs.declared.batch.Judgement.{Judgement}
use Rattle.lt_world.specs.declared.line.LineRan.{LineRan}
use Rattle.lt_world.specs.declared.world.World.{World}
use Rattle.lt_world.specs.Batches.{checked_of, FitsIfGood, good_ones, told}
use Rattle.lt_world.specs.Lines.{all_checked, checks_of, goods_of, HaveAnswers, IsLineRun, items_of, line_text, said_all}
use Rattle.lt_world.specs.Traces.{good_programs}
use Rattle.lt_world.specs.Versions.{IsFront}
use Rattle.lt_world.specs.World.{Shows, unwritten}
use Rattle.lt_world.proofs.Batches.{all_told, answers_are, checks, effects_of, few_run, good_fit, named, replies_of, same_goods, widths-serial}
use Rattle.lt_world.proofs.Columns.{AllByRecursion-push, IsFront-now}
use Rattle.lt_world.proofs.Versions.{count}

-- the programs without a code of each batch
abbrev pub goods : Schema → List (List Program) → List (List (List Stmt))
goods schema batches = map (good_programs schema) batches

-- the lines of batches that begin on this state, from this number on
abbrev lines : Bool → Schema → ℕ → List (List Program) → State → Text
lines marks schema number batches state = line_text marks schema number batches (all_checked schema batches) (line_replies (goods schema batches) state) (line_effects (goods schema batches) state)

-- what the fold over batches comes to
pub record Comes (marks : Bool) (batches : List (List Program)) (m v : model.World) : Type 0 where
  pub schema : v.schema ≡ m.schema
  pub state : v.state ≡ last_state (goods m.schema batches) m.state
  pub versions : v.versions ≡ m.versions ++ line_states (goods m.schema batches) m.state
  pub widths : IsStateOf m.schema v.state
  pub older : AllByRecursion (IsFront m.schema) v.versions
  pub text : v.text ≡ m.text ++ lines marks m.schema (length m.versions + 1) batches m.state

-- the lines of one batch, by its replies and marks
abbrev one : Bool → Schema → ℕ → List Program → List (Reply × Marks) → Text
one marks schema number programs dones = batch_text number ++ told marks schema programs (checks schema programs) (replies_of dones) (effects_of dones) ++ version_text number

pub comes : (marks : Bool) (batches : List (List Program)) (m : model.World) → IsStateOf m.schema m.state → AllByRecursion (IsFront m.schema) m.versions → Comes marks batches m (fold (step marks) m (items_of batches))
comes marks [] m widths older = record { schema = refl; state = refl; versions = sym (append-nil m.versions); widths = widths; older = older; text = sym (append-nil m.text) }
comes marks (programs ∷ batches) m widths older =
    let gs : List (List Stmt) = filter_map (λ (check : Text × Checked). good_of check.1) (named m.schema programs) in
    let done : List (Reply × Marks) × State = serial gs m.state in
    let good : List (List Stmt) = good_programs m.schema programs in
    let same : done ≡ serial good m.state = ap (λ (ps : List (List Stmt)). serial ps m.state) (same_goods m.schema programs) in
    let left : done.1 ≡ serial_state good m.state = ap (λ (d : List (Reply × Marks) × State). d.1) same in
    let wide : IsStateOf m.schema done.1 = widths-serial gs m.state ∙ widths in
    let rest = comes marks batches (with_batch marks m programs) wide (AllByRecursion-push (IsFront m.schema) m.versions done.1 older (IsFront-now m.schema done.1 wide)) in
    let number : ℕ = length m.versions + 1 in
    let next : length (m.versions ++ done.1 ∷ []) + 1 ≡ number + 1 = omega (arith, length-append m.versions (done.1 ∷ [])) in
    let before : Text = m.text ++ (batch_text number ++ programs_text (done_text marks m.schema) (named m.schema programs) done.0 ++ version_text number) in
    record {
      schema = rest.schema;
      state = rest.state ∙ ap (λ (st : State). last_state (goods m.schema batches) st) left;
      versions =
          rest.versions
          ∙ append_assoc m.versions (done.1 ∷ []) (line_states (goods m.schema batches) done.1)
          ∙ ap (λ (st : State). m.versions ++ st ∷ line_states (goods m.schema batches) st) left;
      widths = rest.widths;
      older = rest.older;
      text =
          rest.text
          ∙ ap (λ n. before ++ lines marks m.schema n batches done.1) next
          ∙ ap (λ (t : Text). (m.text ++ (batch_text number ++ t ++ version_text number)) ++ lines marks m.schema (number + 1) batches done.1) (all_told marks m.schema programs done.0)
          ∙ ap (λ (d : List (Reply × Marks) × State). (m.text ++ one marks m.schema number programs d.0) ++ lines marks m.schema (number + 1) batches d.1) same
          ∙ append_assoc m.text (one marks m.schema number programs (serial good m.state).0) (lines marks m.schema (number + 1) batches (serial_state good m.state));
    }

-- ---- the programs without a code, by what their check gave

pub goods_checked : (judgements : List (Vec Judgement)) → goods_of judgements ≡ map (λ (cs : List Checked). filter_map good_of cs) (checks_of judgements)
goods_checked [] = refl
goods_checked (js ∷ judgements) = ap (λ (ps : List (List (List Stmt))). good_ones js.items ∷ ps) (goods_checked judgements)

goods_all : (schema : Schema) (batches : List (List Program)) → map (λ (cs : List Checked). filter_map good_of cs) (all_checked schema batches) ≡ goods schema batches
goods_all schema [] = refl
goods_all schema (b ∷ batches) = ap (λ (ps : List (List (List Stmt))). good_programs schema b ∷ ps) (goods_all schema batches)

pub goods_are : (schema : Schema) (batches : List (List Program)) (judgements : List (Vec Judgement)) → checks_of judgements ≡ all_checked schema batches → goods_of judgements ≡ goods schema batches
goods_are schema batches judgements judged =
    goods_checked judgements ∙ ap (λ (cs : List (List Checked)). map (λ (c : List Checked). filter_map good_of c) cs) judged ∙ goods_all schema batches

-- ---- what the run of a line needs

-- no batch has more of them than programs
pub few_all : (schema : Schema) (batches : List (List Program)) → AllByRecursion IsWithinLimits (items_of batches) → AllByRecursion (λ (ps : List (List Stmt)). length ps ≤ 256) (goods schema batches)
few_all schema [] within = tt
few_all schema (b ∷ batches) within = (few_run schema b (checks schema b) (good_programs schema b) refl refl within.0.1, few_all schema batches within.1)

-- each is within the limits
pub within_at : (batches : List (List Program)) (i : ℕ) (programs : List Program) → i < length batches → programs ≡ get_or batches i programs → AllByRecursion IsWithinLimits (items_of batches) → IsWithinLimits (Batch programs)
within_at [] i programs below at within = absurd (omega (arith, below))
within_at (b ∷ batches) zero programs below at within = subst (λ (ps : List Program). IsWithinLimits (Batch ps)) (sym at) within.0
within_at (b ∷ batches) (suc i) programs below at within = within_at batches i programs (omega (arith, below)) at within.1

-- they fit
pub fit_all : (state : State) (cs : List (List Checked)) → AllByRecursion (λ (c : List Checked). AllByRecursion (FitsIfGood state) c) cs → AllByRecursion (AllByRecursion (Fits state)) (map (λ (c : List Checked). filter_map good_of c) cs)
fit_all state [] fit = tt
fit_all state (c ∷ cs) fit = (good_fit state c fit.0, fit_all state cs fit.1)

-- each batch leaves a state
states_count : (gss : List (List (List Stmt))) (state : State) → length (line_states gss state) ≡ length gss
states_count [] state = refl
states_count (gs ∷ gss) state = ap suc (states_count gss (serial_state gs state))

pub goods_count : (schema : Schema) (batches : List (List Program)) (judgements : List (Vec Judgement)) → checks_of judgements ≡ all_checked schema batches → length (goods_of judgements) ≡ length batches
goods_count schema batches judgements judged = ap (λ (gss : List (List (List Stmt))). length gss) (goods_are schema batches judgements judged) ∙ length-map batches (good_programs schema)

pub versions_count : (before later : List (List Table)) (gss : List (List (List Stmt))) (state : State) → map state_of later ≡ map state_of before ++ line_states gss state → length later ≡ length before + length gss
versions_count before later gss state made =
    let all : length (map state_of later) ≡ length (map state_of before ++ line_states gss state) = ap (λ (ss : List State). length ss) made in
    omega (arith, all, length-map later state_of, length-map before state_of, length-append (map state_of before) (line_states gss state), states_count gss state)

-- ---- a session that ran a line

module _ (w : World) (m : model.World) (s : Shows w m) (batches : List (List Program)) (gss : List (List (List Stmt))) (same : gss ≡ goods w.schema batches) where
  here : goods m.schema batches ≡ gss
  here = ap (λ (h : Schema). goods h batches) s.schema ∙ sym same

  -- it stands where the fold does
  pub line_shown : (marks : Bool) (v : World) → v.schema ≡ w.schema → state_of v.database ≡ last_state gss (state_of w.database)
      → map state_of v.versions ≡ map state_of w.versions ++ line_states gss (state_of w.database) → Shows v (fold (step marks) m (items_of batches))
  line_shown marks v schema left made =
      let c = comes marks batches m s.widths s.older in
      let n : model.World = fold (step marks) m (items_of batches) in
      record {
        schema = c.schema ∙ s.schema ∙ sym schema;
        some = subst (λ (h : Schema). AllByRecursion (λ (heading : List ℕ × List Kind × ℕ). 1 ≤ length heading.1) h) (sym c.schema) s.some;
        widths = subst (λ (h : Schema). IsStateOf h n.state) (sym c.schema) c.widths;
        state =
            c.state
            ∙ ap (λ (ps : List (List (List Stmt))). last_state ps m.state) here
            ∙ ap (λ (st : State). last_state gss st) s.state
            ∙ sym left;
        versions =
            ap (λ (ss : List State). [] ∷ ss) c.versions
            ∙ ap (λ (ps : List (List (List Stmt))). [] ∷ (m.versions ++ line_states ps m.state)) here
            ∙ ap (λ (st : State). [] ∷ (m.versions ++ line_states gss st)) s.state
            ∙ ap (λ (ss : List State). ss ++ line_states gss (state_of w.database)) s.versions
            ∙ sym made;
        older = subst (λ (h : Schema). AllByRecursion (IsFront h) n.versions) (sym c.schema) c.older;
      }

-- what the fold writes of its batches
pub line_said : (marks : Bool) (w : World) (m : model.World) → Shows w m → (batches : List (List Program)) (ran : LineRan) → IsLineRun w batches ran
    → said_all marks m (items_of batches) ≡ line_text marks w.schema ran.number batches (checks_of ran.judgements.items) ran.replies ran.effects
line_said marks w m s batches ran r =
    let c = comes marks batches (unwritten m) s.widths s.older in
    let gss : List (List (List Stmt)) = goods_of ran.judgements.items in
    let same : goods w.schema batches ≡ gss = sym (goods_are w.schema batches ran.judgements.items r.checks) in
    let number : length m.versions + 1 ≡ ran.number = sym (count m w.versions s.versions) ∙ sym r.number_is in
    c.text
    ∙ ap (λ n. lines marks m.schema n batches m.state) number
    ∙ ap (λ (h : Schema). lines marks h ran.number batches m.state) s.schema
    ∙ ap (λ (st : State). lines marks w.schema ran.number batches st) s.state
    ∙ ap (λ (ps : List (List (List Stmt))). line_text marks w.schema ran.number batches (all_checked w.schema batches) (line_replies ps (state_of w.database)) (line_effects ps (state_of w.database))) same
    ∙ ap (λ (cs : List (List Checked)). line_text marks w.schema ran.number batches cs (line_replies gss (state_of w.database)) (line_effects gss (state_of w.database))) (sym r.checks)
    ∙ ap (λ (rs : List (List Reply)). line_text marks w.schema ran.number batches (checks_of ran.judgements.items) rs (line_effects gss (state_of w.database))) (sym r.replies_are)
    ∙ ap (λ (es : List (List Marks)). line_text marks w.schema ran.number batches (checks_of ran.judgements.items) ran.replies es) (sym r.effects_are)

-- ---- what is written of a line

-- batches that ran one after another have their answers
pub have_answers : (schema : Schema) (snapshot : State) → IsStateOf schema snapshot → (batches : List (List Program)) (judgements : List (Vec Judgement)) (state : State)
    → checks_of judgements ≡ all_checked schema batches → AllByRecursion (AllByRecursion AreReplied) (line_replies (goods_of judgements) state)
    → AllByRecursion (AllByRecursion (FitMarks snapshot)) (line_effects (goods_of judgements) state)
    → HaveAnswers schema batches judgements (line_replies (goods_of judgements) state) (line_effects (goods_of judgements) state)
have_answers schema snapshot widths [] judgements state judged can_reply fit = tt
have_answers schema snapshot widths (b ∷ batches) [] state judged can_reply fit = absurd cc
have_answers schema snapshot widths (b ∷ batches) (js ∷ judgements) state judged can_reply fit =
    let first : map checked_of js.items ≡ map (λ (p : Program). checked p schema) b = cc in
    let rest : checks_of judgements ≡ all_checked schema batches = cc in (
      answers_are schema snapshot widths b js.items state first can_reply.0 fit.0,
      have_answers schema snapshot widths batches judgements (serial_state (good_ones js.items) state) rest can_reply.1 fit.1,
    )
