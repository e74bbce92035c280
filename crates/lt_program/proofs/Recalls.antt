-- What a statement does, by its outcome alone, is what it does on the state.
use Rattle.std.proofs.Common.{◌≡◌, ℕ, suc, ◌+◌, ◌<◌, Bool, true, false, cond, not, List, [], ◌∷◌, ◌++◌, length, Some, refl, sym, ap, ◌∙◌, subst}
use Rattle.std.specs.Prelude.{slice_get, flat_map, nat_lt, if◌then◌else◌}
use Rattle.lt_face.specs.Rows.{IsAscending}
use Rattle.lt_face.specs.State.{Row, State}
use Rattle.lt_model.specs.Answers.{answers}
use Rattle.lt_model.specs.declared.normal.Term.{Term}
use Rattle.lt_model.specs.declared.normal.Atom.{Atom}
use Rattle.lt_model.specs.declared.normal.Body.{Body}
use Rattle.lt_model.specs.declared.normal.Stmt.{Stmt}
use Rattle.lt_model.specs.declared.normal.Stmt.TheVariants.{Insert, Delete, Replace, Require, Print}
use Rattle.lt_model.specs.declared.reply.Printed.{Printed}
use Rattle.lt_model.specs.declared.reply.Reply.{Reply}
use Rattle.lt_model.specs.declared.reply.Reply.TheVariants.{Done, Refused}
use Rattle.lt_model.specs.Effect.{Effect, Writes, Requires, Clashes, marks_on, is_plain, displacing, displaced_by, displaced, has_clash, coming, behind, effect}
use Rattle.lt_model.specs.Fits.{FitsStatement, FitMarks}
use Rattle.lt_model.specs.Marks.{Marks, and_then, laid}
use Rattle.lt_model.specs.State.{IsState}
use Rattle.lt_base.specs.Tables.{state_of}
use Rattle.lt_program.specs.declared.course.Course.{Course}
use Rattle.lt_program.specs.declared.part.Found.{Found}
use Rattle.lt_program.specs.declared.part.Found.TheVariants.{Rows, Both, Keyed}
use Rattle.lt_program.specs.Part.{Part}
use Rattle.lt_program.specs.Alone.{is_refusing, with_prints}
use Rattle.lt_program.specs.Kept.{IsOrdered, first_rows, second_rows, displaced_rows, clashes_in, written_by, refused_by, marks_past, effect_by}
use Rattle.lt_program.specs.Tally.{TallyView, IsPartOn, IsRun, Grows, looked_up, keyed_on, outcome_on, is_refused, next, run_of_first, state_before}
use Rattle.lt_query.proofs.Ascending.{IsAscending-ascending}
use Rattle.lt_query.proofs.Wide.{answers_wide}
use Rattle.lt_program.specs.Displacing.{HaveOneWidth}
use Rattle.lt_program.proofs.FittingRuns.{FitsEffect, fits_on}
use Rattle.lt_program.proofs.Picked.{answers_rise}
use Rattle.lt_program.proofs.RunGrows.{first_more}

first_rise : (stmt : Stmt) (state : State) → IsAscending (first_rows (outcome_on stmt state))
first_rise (Insert head keys body) state =
    elim (is_plain head keys) as (λ b. IsAscending (first_rows (cond b (Rows (answers head.terms body state)) (keyed_on head keys [] (answers head.terms body state) state)))) [ true ↦ answers_rise head.terms body state _ refl | false ↦ tt ]
first_rise (Delete head body) state = answers_rise head.terms body state _ refl
first_rise (Replace gone come keys body) state =
    elim (is_plain come keys) as (λ b. IsAscending (first_rows (cond b (Both (answers gone.terms body state) (answers come.terms body state)) (keyed_on come keys (answers gone.terms body state) (answers come.terms body state) state)))) [
      | true ↦ answers_rise gone.terms body state _ refl
      | false ↦ answers_rise gone.terms body state _ refl
    ]
first_rise (Require some body) state = tt
first_rise (Print terms kinds body) state = answers_rise terms body state _ refl

second_rise : (stmt : Stmt) (state : State) → IsAscending (second_rows (outcome_on stmt state))
second_rise (Insert head keys body) state =
    elim (is_plain head keys) as (λ b. IsAscending (second_rows (cond b (Rows (answers head.terms body state)) (keyed_on head keys [] (answers head.terms body state) state)))) [ true ↦ tt | false ↦ answers_rise head.terms body state _ refl ]
second_rise (Delete head body) state = tt
second_rise (Replace gone come keys body) state =
    elim (is_plain come keys) as (λ b. IsAscending (second_rows (cond b (Both (answers gone.terms body state) (answers come.terms body state)) (keyed_on come keys (answers gone.terms body state) (answers come.terms body state) state)))) [
      | true ↦ answers_rise come.terms body state _ refl
      | false ↦ answers_rise come.terms body state _ refl
    ]
second_rise (Require some body) state = tt
second_rise (Print terms kinds body) state = tt

displaced_rise : (stmt : Stmt) (state : State) → IsAscending (displaced_rows (outcome_on stmt state))
displaced_rise (Insert head keys body) state =
    elim (is_plain head keys) as (λ b. IsAscending (displaced_rows (cond b (Rows (answers head.terms body state)) (keyed_on head keys [] (answers head.terms body state) state)))) [
      | true ↦ tt
      | false ↦ IsAscending-ascending (flat_map (displaced_by head.relation keys state) (looked_up head keys (answers head.terms body state)))
    ]
displaced_rise (Delete head body) state = tt
displaced_rise (Replace gone come keys body) state =
    elim (is_plain come keys) as (λ b. IsAscending (displaced_rows (cond b (Both (answers gone.terms body state) (answers come.terms body state)) (keyed_on come keys (answers gone.terms body state) (answers come.terms body state) state)))) [
      | true ↦ tt
      | false ↦ IsAscending-ascending (flat_map (displaced_by come.relation keys state) (looked_up come keys (answers come.terms body state)))
    ]
displaced_rise (Require some body) state = tt
displaced_rise (Print terms kinds body) state = tt

none_even : HaveOneWidth []
none_even = record { width = 0; each = tt }

answers_even : (terms : List Term) (body : Body) (state : State) → HaveOneWidth (answers terms body state)
answers_even terms body state = record { width = length terms; each = answers_wide terms body state }

second_even : (stmt : Stmt) (state : State) → HaveOneWidth (second_rows (outcome_on stmt state))
second_even (Insert head keys body) state =
    elim (is_plain head keys) as (λ b. HaveOneWidth (second_rows (cond b (Rows (answers head.terms body state)) (keyed_on head keys [] (answers head.terms body state) state)))) [ true ↦ none_even | false ↦ answers_even head.terms body state ]
second_even (Delete head body) state = none_even
second_even (Replace gone come keys body) state =
    elim (is_plain come keys) as (λ b. HaveOneWidth (second_rows (cond b (Both (answers gone.terms body state) (answers come.terms body state)) (keyed_on come keys (answers gone.terms body state) (answers come.terms body state) state)))) [
      | true ↦ answers_even come.terms body state
      | false ↦ answers_even come.terms body state
    ]
second_even (Require some body) state = none_even
second_even (Print terms kinds body) state = none_even

pub outcome_ordered : (stmt : Stmt) (state : State) (outcome : Found) → outcome ≡ outcome_on stmt state → IsOrdered outcome
outcome_ordered stmt state outcome is =
    subst IsOrdered (sym is) (record { first = first_rise stmt state; second = second_rise stmt state; displaced = displaced_rise stmt state; even = second_even stmt state })

pub part_ordered : (stmt : Stmt) (state : State) (part : Part) → IsPartOn stmt state part → IsOrdered part.outcome
part_ordered stmt state part is = outcome_ordered stmt state part.outcome is.outcome

twice_not : (b : Bool) → not (not b) ≡ b
twice_not true = refl
twice_not false = refl

-- where two of the rows have one key, no key is looked up, and it is a clash
clash_first : (head : Atom) (keys : ℕ) (rows : List Row) (state : State) (wrap : Marks → Marks) (b : Bool)
    → cond b Clashes (Writes (wrap (displacing head.relation (displaced head.relation keys state (cond b [] rows)) rows))) ≡ cond b Clashes (Writes (wrap (displacing head.relation (displaced head.relation keys state rows) rows)))
clash_first head keys rows state wrap true = refl
clash_first head keys rows state wrap false = refl

inserted_on : (head : Atom) (keys : ℕ) (body : Body) (rows : List Row) (state : State) → effect_by (Insert head keys body) (if is_plain head keys then Rows rows else keyed_on head keys [] rows state) ≡ coming head keys rows state
inserted_on head keys body rows state =
    elim (is_plain head keys) as (λ b. effect_by (Insert head keys body) (cond b (Rows rows) (Keyed [] rows (displaced head.relation keys state (cond b [] (cond (has_clash keys rows) [] rows)))))
    ≡ cond b (Writes (marks_on head.relation true rows)) (cond (has_clash keys rows) Clashes (Writes (displacing head.relation (displaced head.relation keys state rows) rows)))) [
      | true ↦ refl
      | false ↦ clash_first head keys rows state (λ marks. marks) (has_clash keys rows)
    ]

replaced_on : (gone come : Atom) (keys : ℕ) (body : Body) (left rows : List Row) (state : State)
    → effect_by (Replace gone come keys body) (if is_plain come keys then Both left rows else keyed_on come keys left rows state) ≡ behind (marks_on gone.relation false left) (coming come keys rows state)
replaced_on gone come keys body left rows state =
    elim (is_plain come keys) as (λ b. effect_by (Replace gone come keys body) (cond b (Both left rows) (Keyed left rows (displaced come.relation keys state (cond b [] (cond (has_clash keys rows) [] rows)))))
    ≡ behind (marks_on gone.relation false left) (cond b (Writes (marks_on come.relation true rows)) (cond (has_clash keys rows) Clashes (Writes (displacing come.relation (displaced come.relation keys state rows) rows))))) [
      | true ↦ refl
      | false ↦ clash_first come keys rows state (and_then before) (has_clash keys rows) ∙ behind_cond (has_clash keys rows) (displacing come.relation (displaced come.relation keys state rows) rows)
    ]
  where
    before : Marks
    before = marks_on gone.relation false left

    behind_cond : (b : Bool) (marks : Marks) → cond b Clashes (Writes (and_then before marks)) ≡ behind before (cond b Clashes (Writes marks))
    behind_cond true marks = refl
    behind_cond false marks = refl

effect_on : (stmt : Stmt) (state : State) → effect_by stmt (outcome_on stmt state) ≡ effect stmt state
effect_on (Insert head keys body) state = inserted_on head keys body (answers head.terms body state) state
effect_on (Delete head body) state = refl
effect_on (Replace gone come keys body) state = replaced_on gone come keys body (answers gone.terms body state) (answers come.terms body state) state
effect_on (Require true body) state = rw twice_not refl
effect_on (Require false body) state = refl
effect_on (Print terms kinds body) state = refl

pub effect_told : (stmt : Stmt) (state : State) (outcome : Found) → outcome ≡ outcome_on stmt state → effect_by stmt outcome ≡ effect stmt state
effect_told stmt state outcome is = ap (effect_by stmt) is ∙ effect_on stmt state

pub effect_recalled : (stmt : Stmt) (state : State) (part : Part) → IsPartOn stmt state part → effect_by stmt part.outcome ≡ effect stmt state
effect_recalled stmt state part is = effect_told stmt state part.outcome is.outcome

-- a statement of which the part was kept
pub grows_kept : (base : State) (number : ℕ) (stmt : Stmt) (part : Part) (e : Effect) (old new : Course) → IsPartOn stmt (laid base old.marks) part → e ≡ effect_by stmt part.outcome
    → new.parts ≡ old.parts ++ part ∷ [] → new.reply ≡ (next number e (old.reply, old.marks)).0 → new.marks ≡ (next number e (old.reply, old.marks)).1 → Grows number stmt base old new
grows_kept base number stmt part e old new is is_effect parts reply marks_are =
    let told : e ≡ effect stmt (laid base old.marks) = is_effect ∙ effect_recalled stmt (laid base old.marks) part is in
    record {
      part = part;
      is_part = is;
      parts = parts;
      reply = reply ∙ ap (λ f. (next number f (old.reply, old.marks)).0) told;
      marks = marks_are ∙ ap (λ f. (next number f (old.reply, old.marks)).1) told;
    }

marks_coming : (number : ℕ) (b : Bool) (marks : Marks) (prints : List Printed) (before : Marks) → (next number (cond b Clashes (Writes marks)) (Done prints, before)).1 ≡ cond b [] (and_then before marks)
marks_coming number true marks prints before = refl
marks_coming number false marks prints before = refl

refused_coming : (number : ℕ) (b : Bool) (marks : Marks) (prints : List Printed) (before : Marks) → is_refused (next number (cond b Clashes (Writes marks)) (Done prints, before)).0 ≡ b
refused_coming number true marks prints before = refl
refused_coming number false marks prints before = refl

pub next_marks : (number : ℕ) (stmt : Stmt) (outcome : Found) (reply : Reply) (before : Marks) → is_refused reply ≡ false → (next number (effect_by stmt outcome) (reply, before)).1 ≡ marks_past stmt outcome before
next_marks number stmt outcome (Refused j) before going = cc
next_marks number (Insert head keys body) outcome (Done prints) before going = marks_coming number (clashes_in keys outcome) (written_by (Insert head keys body) outcome) prints before
next_marks number (Delete head body) outcome (Done prints) before going = refl
next_marks number (Replace gone come keys body) outcome (Done prints) before going = marks_coming number (clashes_in keys outcome) (written_by (Replace gone come keys body) outcome) prints before
next_marks number (Require some body) outcome (Done prints) before going = by (refused_by (Require some body) outcome)
  where
    by : (b : Bool) → (next number (Requires (not b)) (Done prints, before)).1 ≡ (if b then [] else before)
    by true = refl
    by false = refl
next_marks number (Print terms kinds body) outcome (Done prints) before going = refl

pub next_refused : (number : ℕ) (stmt : Stmt) (outcome : Found) (reply : Reply) (before : Marks) → is_refused reply ≡ false → is_refused (next number (effect_by stmt outcome) (reply, before)).0 ≡ refused_by stmt outcome
next_refused number stmt outcome (Refused j) before going = cc
next_refused number (Insert head keys body) outcome (Done prints) before going = refused_coming number (clashes_in keys outcome) (written_by (Insert head keys body) outcome) prints before
next_refused number (Delete head body) outcome (Done prints) before going = refl
next_refused number (Replace gone come keys body) outcome (Done prints) before going = refused_coming number (clashes_in keys outcome) (written_by (Replace gone come keys body) outcome) prints before
next_refused number (Require some body) outcome (Done prints) before going = by (refused_by (Require some body) outcome)
  where
    by : (b : Bool) → is_refused (next number (Requires (not b)) (Done prints, before)).0 ≡ b
    by true = refl
    by false = refl
next_refused number (Print terms kinds body) outcome (Done prints) before going = refl

reply_coming : (number : ℕ) (b : Bool) (marks : Marks) (prints : List Printed) (before : Marks) → (next number (cond b Clashes (Writes marks)) (Done prints, before)).0 ≡ cond b (Refused number) (Done prints)
reply_coming number true marks prints before = refl
reply_coming number false marks prints before = refl

pub next_reply : (number : ℕ) (stmt : Stmt) (outcome : Found) (reply : Reply) (before : Marks) → is_refused reply ≡ false → (next number (effect_by stmt outcome) (reply, before)).0 ≡ (if refused_by stmt outcome then Refused number else with_prints number stmt outcome reply)
next_reply number stmt outcome (Refused j) before going = cc
next_reply number (Insert head keys body) outcome (Done prints) before going = reply_coming number (clashes_in keys outcome) (written_by (Insert head keys body) outcome) prints before
next_reply number (Delete head body) outcome (Done prints) before going = refl
next_reply number (Replace gone come keys body) outcome (Done prints) before going = reply_coming number (clashes_in keys outcome) (written_by (Replace gone come keys body) outcome) prints before
next_reply number (Require some body) outcome (Done prints) before going = by (refused_by (Require some body) outcome)
  where
    by : (b : Bool) → (next number (Requires (not b)) (Done prints, before)).0 ≡ (if b then Refused number else Done prints)
    by true = refl
    by false = refl
next_reply number (Print terms kinds body) outcome (Done prints) before going = refl

-- only a requirement, or a statement whose rows come into a relation with value columns, may refuse the program
refused_plain : (b : Bool) (head : Atom) (keys : ℕ) (plain keyed : Found) → clashes_in keys plain ≡ false → clashes_in keys (cond b plain keyed) ≡ true → nat_lt 0 (length (cond b [] (head ∷ []))) ≡ true
refused_plain true head keys plain keyed none refused = absurd cc
refused_plain false head keys plain keyed none refused = refl

pub refuses_only : (stmt : Stmt) (state : State) (outcome : Found) → outcome ≡ outcome_on stmt state → refused_by stmt outcome ≡ true → is_refusing stmt ≡ true
refuses_only stmt state outcome is refused = on stmt (subst (λ (o : Found). refused_by stmt o ≡ true) is refused)
  where
    on : (s : Stmt) → refused_by s (outcome_on s state) ≡ true → is_refusing s ≡ true
    on (Insert head keys body) h = refused_plain (is_plain head keys) head keys (Rows (answers head.terms body state)) (keyed_on head keys [] (answers head.terms body state) state) refl h
    on (Delete head body) h = absurd cc
    on (Replace gone come keys body) h =
        refused_plain (is_plain come keys) come keys (Both (answers gone.terms body state) (answers come.terms body state)) (keyed_on come keys (answers gone.terms body state) (answers come.terms body state) state) refl h
    on (Require some body) h = refl
    on (Print terms kinds body) h = absurd cc

-- what it writes fits, where it doesn't refuse
written_fits : (state : State) (b : Bool) (marks : Marks) → FitsEffect state (cond b Clashes (Writes marks)) → b ≡ false → FitMarks state marks
written_fits state true marks fits on = absurd cc
written_fits state false marks fits on = fits

pub outcome_fits : (stmt : Stmt) (state : State) (outcome : Found) → IsState state → FitsStatement state stmt → outcome ≡ outcome_on stmt state → refused_by stmt outcome ≡ false → FitMarks state (written_by stmt outcome)
outcome_fits stmt state outcome is_state fits is on = by stmt (subst (FitsEffect state) (sym (effect_told stmt state outcome is)) (fits_on state [] stmt is_state tt fits)) on
  where
    by : (s : Stmt) → FitsEffect state (effect_by s outcome) → refused_by s outcome ≡ false → FitMarks state (written_by s outcome)
    by (Insert head keys body) h k = written_fits state (clashes_in keys outcome) (written_by (Insert head keys body) outcome) h k
    by (Delete head body) h k = h
    by (Replace gone come keys body) h k = written_fits state (clashes_in keys outcome) (written_by (Replace gone come keys body) outcome) h k
    by (Require some body) h k = tt
    by (Print terms kinds body) h k = tt

module _ (t : TallyView) (run : IsRun t) (j : ℕ) (stmt : Stmt) (part : Part) (there : slice_get t.program j ≡ Some stmt) (at : slice_get t.parts j ≡ Some part) (below : j < length t.parts) where
  -- the run of the statements up to this one, by its outcome
  whole : run_of_first (suc j) t.program (state_of t.base) ≡ next (j + 1) (effect_by stmt part.outcome) (run_of_first j t.program (state_of t.base))
  whole = first_more j t.program stmt (state_of t.base) there
      ∙ ap (λ e. next (j + 1) e (run_of_first j t.program (state_of t.base))) (sym (effect_recalled stmt (state_before j t.program (state_of t.base)) part (run.parts j stmt part there at)))

  pub marks_recalled : (run_of_first (suc j) t.program (state_of t.base)).1 ≡ marks_past stmt part.outcome (run_of_first j t.program (state_of t.base)).1
  marks_recalled = ap (λ (out : Reply × Marks). out.1) whole
      ∙ next_marks (j + 1) stmt part.outcome (run_of_first j t.program (state_of t.base)).0 (run_of_first j t.program (state_of t.base)).1 (run.went_on j below)

  pub refusal_recalled : is_refused (run_of_first (suc j) t.program (state_of t.base)).0 ≡ refused_by stmt part.outcome
  refusal_recalled = ap (λ (out : Reply × Marks). is_refused out.0) whole
      ∙ next_refused (j + 1) stmt part.outcome (run_of_first j t.program (state_of t.base)).0 (run_of_first j t.program (state_of t.base)).1 (run.went_on j below)
