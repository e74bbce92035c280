-- A batch by the report's definition: its programs checked, run as the serial definition says, and told.
use Rattle.std.proofs.Common.{◌≡◌, ℕ, Bool, true, false, zero, suc, ◌+◌, ◌≤◌, ◌<◌, List, [], ◌∷◌, ◌++◌, length, map, refl, sym, ap, subst, ◌∙◌, arith}
use Rattle.std.specs.Prelude.{filter_map}
use Rattle.std.proofs.lemmas.List.{length-map, map-append}
use Rattle.std.specs.List.{AllByRecursion}
use Rattle.lt_face.specs.State.{Relation, State}
use Rattle.lt_face.proofs.RowLemmas.{each_weaker}
use Rattle.lt_model.specs.declared.mark.Mark.{Mark}
use Rattle.lt_model.specs.declared.syntax.Item.TheVariants.{Batch}
use Rattle.lt_model.specs.declared.syntax.Program.{Program}
use Rattle.lt_model.specs.declared.normal.Stmt.{Stmt}
use Rattle.lt_model.specs.declared.reply.Reply.{Reply}
use Rattle.lt_model.specs.Check.{Checked, Good, Bad, checked}
use Rattle.lt_model.specs.Fits.{FitMarks, Fits, IsMarkOf, IsWide}
use Rattle.lt_model.specs.Schema.{Schema}
use Rattle.lt_model.specs.Serial.{serial}
use Rattle.lt_model.specs.Marks.{Marks, laid}
use Rattle.lt_model.specs.Run.{run}
use Rattle.lt_model.specs.Report as model
use Rattle.lt_model.specs.Report.{Text, good_of, heading_of, programs_text, done_text, bad_program_text, batch_text, version_text, with_batch}
use Rattle.lt_base.specs.Tables.{Table, state_of}
use Rattle.lt_check.specs.States.{IsStateOf}
use Rattle.lt_batch.specs.Batch.{serial_effects, serial_replies, serial_state}
use Rattle.lt_report.specs.Headed.{IsHeaded}
use Rattle.lt_program.specs.Run.{AreReplied}
use Rattle.lt_world.specs.declared.batch.Ran.{Ran}
use Rattle.lt_world.specs.declared.batch.Judgement.{Judgement}
use Rattle.lt_world.specs.Batches.{checked_of, FitsIfGood, good_ones, HasAnswers, IsRun, told}
use Rattle.lt_world.specs.Versions.{IsFront}
use Rattle.lt_world.specs.World.{said, Shows}
use Rattle.lt_world.specs.declared.world.World.{World}
use Rattle.lt_world.proofs.Columns.{AllByRecursion-push, IsFront-now, widths-laid}
use Rattle.lt_world.proofs.Versions.{count}

abbrev pub checks : Schema → List Program → List Checked
checks schema programs = map (λ (p : Program). checked p schema) programs

abbrev pub named : Schema → List Program → List (Text × Checked)
named schema programs = map (λ (p : Program). (p.name, checked p schema)) programs

abbrev pub replies_of : List (Reply × Marks) → List Reply
replies_of dones = map (λ (done : Reply × Marks). done.0) dones

abbrev pub effects_of : List (Reply × Marks) → List Marks
effects_of dones = map (λ (done : Reply × Marks). done.1) dones

-- ---- the programs without a code

one_good : (p : Program) (c : Checked) (rest : List (Text × Checked)) (cs : List Checked) → filter_map (λ (check : Text × Checked). good_of check.1) rest ≡ filter_map good_of cs
    → filter_map (λ (check : Text × Checked). good_of check.1) ((p.name, c) ∷ rest) ≡ filter_map good_of (c ∷ cs)
one_good p (Good prog) rest cs same = ap (λ (ps : List (List Stmt)). prog ∷ ps) same
one_good p (Bad code j) rest cs same = same

pub same_goods : (schema : Schema) (programs : List Program) → filter_map (λ (check : Text × Checked). good_of check.1) (named schema programs) ≡ filter_map good_of (checks schema programs)
same_goods schema [] = refl
same_goods schema (p ∷ programs) = one_good p (checked p schema) (named schema programs) (checks schema programs) (same_goods schema programs)

-- ---- their lines

one_told : (marks : Bool) (schema : Schema) (p : Program) (c : Checked) (rest : List (Text × Checked)) (programs : List Program) (cs : List Checked) (dones : List (Reply × Marks))
    → ((ds : List (Reply × Marks)) → programs_text (done_text marks schema) rest ds ≡ told marks schema programs cs (replies_of ds) (effects_of ds))
    → programs_text (done_text marks schema) ((p.name, c) ∷ rest) dones ≡ told marks schema (p ∷ programs) (c ∷ cs) (replies_of dones) (effects_of dones)
one_told marks schema p (Bad code j) rest programs cs dones same = ap (λ (t : Text). bad_program_text p.name code j ++ t) (same dones)
one_told marks schema p (Good prog) rest programs cs [] same = refl
one_told marks schema p (Good prog) rest programs cs (d ∷ dones) same = ap (λ (t : Text). done_text marks schema p.name d ++ t) (same dones)

pub all_told : (marks : Bool) (schema : Schema) (programs : List Program) (dones : List (Reply × Marks))
    → programs_text (done_text marks schema) (named schema programs) dones ≡ told marks schema programs (checks schema programs) (replies_of dones) (effects_of dones)
all_told marks schema [] dones = refl
all_told marks schema (p ∷ programs) dones = one_told marks schema p (checked p schema) (named schema programs) programs (checks schema programs) dones (all_told marks schema programs)

-- ---- the state that they leave

pub widths-serial : (programs : List (List Stmt)) (state : State) → map (λ (r : Relation). r.width) (serial programs state).1 ≡ map (λ (r : Relation). r.width) state
widths-serial [] state = refl
widths-serial (program ∷ programs) state = widths-serial programs (laid state (run program state).1) ∙ widths-laid state (run program state).1

pub serial-length : (programs : List (List Stmt)) (state : State) → length (serial programs state).0 ≡ length programs
serial-length [] state = refl
serial-length (program ∷ programs) state = ap suc (serial-length programs (laid state (run program state).1))

pub effects-length : (programs : List (List Stmt)) (state : State) → length (serial_effects programs state) ≡ length programs
effects-length programs state = length-map (serial programs state).0 (λ (done : Reply × Marks). done.1) ∙ serial-length programs state

-- ---- marks that aren't told

bare_told : (schema : Schema) (programs : List Program) (cs : List Checked) (replies : List Reply) (es fs : List Marks) → length (filter_map good_of cs) ≤ length es → length (filter_map good_of cs) ≤ length fs
    → told false schema programs cs replies es ≡ told false schema programs cs replies fs
bare_told schema [] cs replies es fs some all = refl
bare_told schema (p ∷ programs) [] replies es fs some all = refl
bare_told schema (p ∷ programs) (Bad code j ∷ cs) replies es fs some all = ap (λ (t : Text). bad_program_text p.name code j ++ t) (bare_told schema programs cs replies es fs some all)
bare_told schema (p ∷ programs) (Good prog ∷ cs) [] es fs some all = refl
bare_told schema (p ∷ programs) (Good prog ∷ cs) (r ∷ replies) [] fs some all = absurd (omega (arith, some))
bare_told schema (p ∷ programs) (Good prog ∷ cs) (r ∷ replies) (e ∷ es) [] some all = absurd (omega (arith, all))
bare_told schema (p ∷ programs) (Good prog ∷ cs) (r ∷ replies) (e ∷ es) (f ∷ fs) some all =
    ap (λ (t : Text). done_text false schema p.name (r, e) ++ t) (bare_told schema programs cs replies es fs (omega (arith, some)) (omega (arith, all)))

-- the lines of a batch tell what was written only where the marks are asked for
pub same_told : (marks : Bool) (schema : Schema) (programs : List Program) (cs : List Checked) (replies : List Reply) (es fs : List Marks) → (marks ≡ true → es ≡ fs)
    → length (filter_map good_of cs) ≤ length es → length (filter_map good_of cs) ≤ length fs → told marks schema programs cs replies es ≡ told marks schema programs cs replies fs
same_told true schema programs cs replies es fs same some all = ap (λ (xs : List Marks). told true schema programs cs replies xs) (same refl)
same_told false schema programs cs replies es fs same some all = bare_told schema programs cs replies es fs some all

-- ---- a batch

module _ (w : World) (m : model.World) (programs : List Program) (cs : List Checked) (s : Shows w m) (judged : cs ≡ map (λ (p : Program). checked p w.schema) programs) where
  pub same_checks : checks m.schema programs ≡ cs
  same_checks = ap (λ (h : Schema). checks h programs) s.schema ∙ sym judged

  pub same_runs : serial (filter_map (λ (check : Text × Checked). good_of check.1) (named m.schema programs)) m.state ≡ serial (filter_map good_of cs) (state_of w.database)
  same_runs =
      ap (λ (ps : List (List Stmt)). serial ps m.state) (same_goods m.schema programs ∙ ap (λ (c : List Checked). filter_map good_of c) same_checks)
      ∙ ap (λ (st : State). serial (filter_map good_of cs) st) s.state

  -- a session that ran the batch stands where the fold does
  pub batch_shown : (marks : Bool) (v : World) (db : List Table) → v.schema ≡ w.schema → state_of db ≡ serial_state (filter_map good_of cs) (state_of w.database)
      → v.database ≡ db → v.versions ≡ w.versions ++ db ∷ [] → Shows v (with_batch marks m programs)
  batch_shown marks v db schema left now versions =
      let gs : List (List Stmt) = filter_map (λ (check : Text × Checked). good_of check.1) (named m.schema programs) in
      let done : List (Reply × Marks) × State = serial gs m.state in
      let state : done.1 ≡ state_of db = ap (λ (d : List (Reply × Marks) × State). d.1) same_runs ∙ sym left in
      let widths : IsStateOf m.schema done.1 = widths-serial gs m.state ∙ s.widths in
      record {
        schema = s.schema ∙ sym schema;
        some = s.some;
        widths = widths;
        state = state ∙ ap state_of (sym now);
        versions =
            ap (λ (ss : List State). ss ++ done.1 ∷ []) s.versions
            ∙ ap (λ (x : State). map state_of w.versions ++ x ∷ []) state
            ∙ sym (ap (λ (vs : List (List Table)). map state_of vs) versions ∙ map-append state_of w.versions (db ∷ []));
        older = AllByRecursion-push (IsFront m.schema) m.versions done.1 s.older (IsFront-now m.schema done.1 widths);
      }

  -- what the fold writes of the batch
  pub batch_said : (marks : Bool) (replies : List Reply) (effects : List Marks) (number : ℕ) → number ≡ length w.versions
      → replies ≡ serial_replies (filter_map good_of cs) (state_of w.database) → (marks ≡ true → effects ≡ serial_effects (filter_map good_of cs) (state_of w.database))
      → length (filter_map good_of cs) ≤ length effects
      → said marks m (Batch programs) ≡ batch_text number ++ told marks w.schema programs cs replies effects ++ version_text number
  batch_said marks replies effects number counted replied wrote some =
      let done : List (Reply × Marks) × State = serial (filter_map (λ (check : Text × Checked). good_of check.1) (named m.schema programs)) m.state in
      let numbered : length m.versions + 1 ≡ number = sym (count m w.versions s.versions) ∙ sym counted in
      let all : length (filter_map good_of cs) ≤ length (serial_effects (filter_map good_of cs) (state_of w.database)) =
      omega (arith, effects-length (filter_map good_of cs) (state_of w.database)) in
      let middle : programs_text (done_text marks m.schema) (named m.schema programs) done.0 ≡ told marks w.schema programs cs replies effects =
      all_told marks m.schema programs done.0
      ∙ ap (λ (c : List Checked). told marks m.schema programs c (replies_of done.0) (effects_of done.0)) same_checks
      ∙ ap (λ (d : List (Reply × Marks) × State). told marks m.schema programs cs (replies_of d.0) (effects_of d.0)) same_runs
      ∙ sym (ap (λ (rs : List Reply). told marks m.schema programs cs rs (serial_effects (filter_map good_of cs) (state_of w.database))) replied)
      ∙ sym (same_told marks m.schema programs cs replies effects (serial_effects (filter_map good_of cs) (state_of w.database)) wrote some all)
      ∙ ap (λ (h : Schema). told marks h programs cs replies effects) s.schema in
      ap (λ n. batch_text n ++ programs_text (done_text marks m.schema) (named m.schema programs) done.0 ++ version_text n) numbered
      ∙ ap (λ (t : Text). batch_text number ++ t ++ version_text number) middle

-- ---- marks that fit a state

wide_there : (schema : Schema) (state : State) (n width : ℕ) → IsStateOf schema state → IsWide state n width → (n < length schema) × (width ≡ length (heading_of schema n).1)
wide_there [] [] n width h e = absurd cc
wide_there [] (r ∷ state) n width h e = absurd cc
wide_there (k ∷ schema) [] n width h e = absurd cc
wide_there (k ∷ schema) (r ∷ state) zero width h e =
    let first : r.width ≡ length k.1 = cc in
    let here : r.width ≡ width = cc in
    (omega arith, sym here ∙ first)
wide_there (k ∷ schema) (r ∷ state) (suc n) width h e =
    let rest : IsStateOf schema state = cc in
    let more = wide_there schema state n width rest e in
    let below : n < length schema = more.0 in
    (omega (arith, below), more.1)

mark_headed : (schema : Schema) (state : State) → IsStateOf schema state → (mark : Mark) → IsMarkOf state mark → IsHeaded schema mark
mark_headed schema state h mark fit =
    let there = wide_there schema state mark.relation (length mark.row) h fit.is_wide in
    record { there = there.0; row = record { is_wide = there.1; has_cells = fit.has_cells } }

-- they have headings
pub all_headed : (schema : Schema) (state : State) (effects : List Marks) → IsStateOf schema state → AllByRecursion (FitMarks state) effects → AllByRecursion (λ (effect : Marks). AllByRecursion (IsHeaded schema) effect) effects
all_headed schema state effects h fit =
    each_weaker (FitMarks state) (λ (effect : Marks). AllByRecursion (IsHeaded schema) effect) (λ effect fits. each_weaker (IsMarkOf state) (IsHeaded schema) (mark_headed schema state h) effect fits) effects fit

-- ---- what the run of a batch needs

-- the programs without a code fit
pub good_fit : (state : State) (cs : List Checked) → AllByRecursion (FitsIfGood state) cs → AllByRecursion (Fits state) (filter_map good_of cs)
good_fit state [] fit = tt
good_fit state (Good prog ∷ cs) fit = (fit.0, good_fit state cs fit.1)
good_fit state (Bad code j ∷ cs) fit = good_fit state cs fit.1

-- there are no more of them than programs
pub few_good : (cs : List Checked) → length (filter_map good_of cs) ≤ length cs
few_good [] = omega arith
few_good (Good prog ∷ cs) = let rest = few_good cs in omega (arith, rest)
few_good (Bad code j ∷ cs) = let rest = few_good cs in omega (arith, rest)

pub few_run : (schema : Schema) (programs : List Program) (cs : List Checked) (progs : List (List Stmt)) → cs ≡ map (λ (p : Program). checked p schema) programs → progs ≡ filter_map good_of cs
    → length programs ≤ 256 → length progs ≤ 256
few_run schema programs cs progs judged good few =
    let same : length progs ≡ length (filter_map good_of cs) = ap (λ (ps : List (List Stmt)). length ps) good in
    let all : length cs ≡ length programs = ap (λ (c : List Checked). length c) judged ∙ length-map programs (λ (p : Program). checked p schema) in
    let fewer = few_good cs in
    omega (arith, same, all, fewer, few)

-- ---- what the run of a batch gives

abbrev pub widths_of : (w : World) (m : model.World) → Shows w m → IsStateOf w.schema (state_of w.database)
widths_of w m s = subst (λ (st : State). IsStateOf w.schema st) s.state (subst (λ (h : Schema). IsStateOf h m.state) s.schema s.widths)

-- the answers of programs that ran one after another can be written
pub answers_are : (schema : Schema) (snapshot : State) → IsStateOf schema snapshot → (programs : List Program) (judgements : List Judgement) (state : State)
    → map checked_of judgements ≡ map (λ (p : Program). checked p schema) programs → AllByRecursion AreReplied (serial_replies (good_ones judgements) state)
    → AllByRecursion (FitMarks snapshot) (serial_effects (good_ones judgements) state)
    → HasAnswers schema programs judgements (serial_replies (good_ones judgements) state) (serial_effects (good_ones judgements) state)
answers_are schema snapshot widths programs judgements state judged can_reply fit =
    let dones : length (serial (good_ones judgements) state).0 ≡ length (good_ones judgements) = serial-length (good_ones judgements) state in
    let replies_count : length (serial_replies (good_ones judgements) state) ≡ length (serial (good_ones judgements) state).0 = length-map (serial (good_ones judgements) state).0 (λ (done : Reply × Marks). done.0) in
    let effects_count : length (serial_effects (good_ones judgements) state) ≡ length (serial (good_ones judgements) state).0 = length-map (serial (good_ones judgements) state).0 (λ (done : Reply × Marks). done.1) in
    record {
      checks = sym (length-map judgements checked_of) ∙ ap (λ (cs : List Checked). length cs) judged ∙ length-map programs (λ (p : Program). checked p schema);
      some_replies = omega (arith, dones, replies_count);
      some_effects = omega (arith, dones, effects_count);
      replied = can_reply;
      headed = all_headed schema snapshot (serial_effects (good_ones judgements) state) widths fit;
    }

pub run_is : (w : World) (m : model.World) → Shows w m → (programs : List Program) (marks : Bool) (ran : Ran) (progs : List (List Stmt)) → ran.number ≡ length w.versions
    → map checked_of ran.judgements.items ≡ map (λ (p : Program). checked p w.schema) programs → progs ≡ good_ones ran.judgements.items
    → ran.replies ≡ serial_replies progs (state_of w.database) → (marks ≡ true → ran.effects ≡ serial_effects progs (state_of w.database)) → length ran.effects ≡ length progs
    → AllByRecursion AreReplied ran.replies → AllByRecursion (FitMarks (state_of w.database)) ran.effects → IsRun w programs marks ran
run_is w m s programs marks ran progs numbered judged good replied wrote each can_reply fit =
    let same_replies : ran.replies ≡ serial_replies (good_ones ran.judgements.items) (state_of w.database) = replied ∙ ap (λ (ps : List (List Stmt)). serial_replies ps (state_of w.database)) good in
    let dones : length (serial (good_ones ran.judgements.items) (state_of w.database)).0 ≡ length (good_ones ran.judgements.items) = serial-length (good_ones ran.judgements.items) (state_of w.database) in
    let replies_count : length ran.replies ≡ length (serial (good_ones ran.judgements.items) (state_of w.database)).0 =
    ap (λ (xs : List Reply). length xs) same_replies ∙ length-map (serial (good_ones ran.judgements.items) (state_of w.database)).0 (λ (done : Reply × Marks). done.0) in
    let effects_count : length ran.effects ≡ length (good_ones ran.judgements.items) = each ∙ ap (λ (ps : List (List Stmt)). length ps) good in
    record {
      number_is = numbered;
      checks = judged;
      replies_are = same_replies;
      effects_are = λ asked. wrote asked ∙ ap (λ (ps : List (List Stmt)). serial_effects ps (state_of w.database)) good;
      answers = record {
        checks = sym (length-map ran.judgements.items checked_of) ∙ ap (λ (cs : List Checked). length cs) judged ∙ length-map programs (λ (p : Program). checked p w.schema);
        some_replies = omega (arith, dones, replies_count);
        some_effects = omega (arith, effects_count);
        replied = can_reply;
        headed = all_headed w.schema (state_of w.database) ran.effects (widths_of w m s) fit;
      };
    }

-- of a batch of which all marks are known
pub run_by : (marks : Bool) (w : World) (programs : List Program) (ran : Ran) → IsRun w programs true ran → IsRun w programs marks ran
run_by marks w programs ran r = record { number_is = r.number_is; checks = r.checks; replies_are = r.replies_are; effects_are = λ asked. r.effects_are refl; answers = r.answers }

-- what the fold writes of a batch that ran
pub run_said : (marks : Bool) (w : World) (m : model.World) (s : Shows w m) (programs : List Program) (ran : Ran) → IsRun w programs marks ran
    → said marks m (Batch programs) ≡ batch_text ran.number ++ told marks w.schema programs (map checked_of ran.judgements.items) ran.replies ran.effects ++ version_text ran.number
run_said marks w m s programs ran r =
    batch_said w m programs (map checked_of ran.judgements.items) s r.checks marks ran.replies ran.effects ran.number r.number_is r.replies_are r.effects_are r.answers.some_effects
