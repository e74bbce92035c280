-- The run of a program on a database that takes its marks as they come.
use Rattle.std.proofs.Common.{◌≡◌, ℕ, suc, ◌+◌, ◌<◌, ◌≤◌, Bool, true, false, List, [], length, take, Some, get_or, refl, sym, ap, ◌∙◌, subst, inl, inr, arith}
use Rattle.std.specs.Prelude.{slice_get, nat_lt, ◌||◌, ◌==◌, if◌then◌else◌}
use Rattle.std.proofs.lemmas.Bool.{or_parts, or_cases, eqb-true, eq-eqb, true≢false, cases_lt}
use Rattle.std.proofs.lemmas.Bool.Decides.{nat_tests}
use Rattle.std.proofs.lemmas.List.{take_all}
use Rattle.std.proofs.lemmas.Option.{slice_get_within, slice_get-get_or}
use Rattle.lt_face.specs.State.{State}
use Rattle.lt_model.specs.declared.normal.Body.{Body}
use Rattle.lt_model.specs.declared.normal.Stmt.{Stmt}
use Rattle.lt_model.specs.declared.reply.Reply.{Reply}
use Rattle.lt_model.specs.declared.reply.Reply.TheVariants.{Done, Refused}
use Rattle.lt_model.specs.Effect.{effect}
use Rattle.lt_model.specs.Fits.{FitMarks}
use Rattle.lt_model.specs.Marks.{Marks, and_then, laid}
use Rattle.lt_model.specs.Run.{run}
use Rattle.lt_model.specs.State.{IsState}
use Rattle.lt_model.proofs.Composition.{laid_twice}
use Rattle.lt_delta.proofs.Kept.{IsState-laid}
use Rattle.lt_base.specs.Tables.{Table, state_of, has_index}
use Rattle.lt_program.specs.declared.going.Going.{Going}
use Rattle.lt_program.specs.declared.part.Found.{Found}
use Rattle.lt_program.specs.Alone.{AreWithin, IsAccepted, IsFirst, IsUnderWay, and_then_if, is_refusing, kept_if, with_prints}
use Rattle.lt_program.specs.Asked.{CanEvaluate}
use Rattle.lt_program.specs.Kept.{effect_by, marks_past, refused_by, written_by}
use Rattle.lt_program.specs.Run.{AreReplied}
use Rattle.lt_program.specs.Split.{statement_cost_by, cost_on_by, cost_of_first_by}
use Rattle.lt_program.specs.Tally.{IsLaidOn, is_refused, next, outcome_on, run_of_first, state_before, ends_at}
use Rattle.lt_program.specs.Undo.{IsBack, IsWritten}
use Rattle.lt_program.proofs.CourseSteps.{evaluates_on}
use Rattle.lt_program.proofs.FittingRuns.{run_ascends}
use Rattle.lt_program.proofs.LaterMarks.{rises}
use Rattle.lt_program.proofs.Recalls.{effect_told, next_marks, next_refused, next_reply, outcome_fits, refuses_only}
use Rattle.lt_program.proofs.RunGrows.{first_more, refused_whole}
use Rattle.lt_program.proofs.Sounds.{statement_evaluates}
use Rattle.lt_program.proofs.SplitCosts.{cost_within}
use Rattle.lt_program.proofs.TallyCosts.{first_end, first_goes_on}
use Rattle.lt_program.proofs.TallyGrows.{first_fits}

lt_true : (a b : ℕ) → a < b → nat_lt a b ≡ true
lt_true a b lt = grind (arith, nat_tests)

-- ---- before the first statement

pub first_none : (program : List Stmt) (base : List Table) (keeps : Bool) (refusing : ℕ) (going : Going) → going.reply ≡ Done [] → going.marks ≡ [] → going.undo.items ≡ [] → IsFirst program base keeps refusing 0 going base
first_none program base keeps refusing going reply marks undo = record {
  within = omega arith;
  reply = reply;
  marks = marks ∙ none keeps;
  went_on = λ j lt. absurd (omega arith);
  state = refl;
  indexes = λ relation columns. refl;
  back = λ on lt. subst (IsBack (state_of base) (state_of base)) (sym undo) (record { fits = tt; back = refl });
}
  where
    none : (b : Bool) → [] ≡ kept_if b []
    none true = refl
    none false = refl

module _ (program : List Stmt) (base : List Table) (keeps : Bool) (refusing n : ℕ) (going : Going) (tables : List Table) (way : IsUnderWay program base keeps refusing n going tables) where
  -- the tables are the base with the marks so far laid on it
  laid_on : IsLaidOn base (run_of_first n program (state_of base)).1 tables
  laid_on = record { state = way.first.state; indexes = way.first.indexes }

  so_far_fit : FitMarks (state_of base) (run_of_first n program (state_of base)).1
  so_far_fit = (first_fits n program (state_of base) way.first.within way.is_state way.fits).0

  pub is_state_now : IsState (state_of tables)
  is_state_now = subst IsState (sym way.first.state) (IsState-laid (state_of base) (run_of_first n program (state_of base)).1 way.is_state so_far_fit)

  -- ---- one more statement

  module _ (stmt : Stmt) (there : slice_get program n ≡ Some stmt) where
    pub can_evaluate : CanEvaluate tables stmt
    can_evaluate = evaluates_on base (run_of_first n program (state_of base)).1 tables laid_on stmt (statement_evaluates base program n stmt there way.wide way.fits way.indexes)

    pub cost_here : (most : Body → State → ℕ) (old new : ℕ) → new ≤ old + statement_cost_by most stmt (state_of tables) → new ≤ old + cost_on_by most (slice_get program n) (state_of tables)
    cost_here most old new cost = subst (λ o. new ≤ old + cost_on_by most o (state_of tables)) (sym there) cost

    module _ (outcome : Found) (is : outcome ≡ outcome_on stmt (state_of tables)) where
      pub fits_here : refused_by stmt outcome ≡ false → FitMarks (state_of tables) (written_by stmt outcome)
      fits_here on = outcome_fits stmt (state_of tables) outcome is_state_now can_evaluate.fits is on

      -- where it refuses the program, it is known how to take back what was written
      pub back_here : is_refused going.reply ≡ false → refused_by stmt outcome ≡ true → IsBack (state_of base) (state_of tables) going.undo.items
      back_here goes refused = way.first.back goes (way.last n stmt there (refuses_only stmt (state_of tables) outcome is refused))

      whole : is_refused going.reply ≡ false → run_of_first (n + 1) program (state_of base) ≡ next (n + 1) (effect_by stmt outcome) (run_of_first n program (state_of base))
      whole goes =
          let one : n + 1 ≡ suc n = omega arith in
          ap (λ k. run_of_first k program (state_of base)) one
          ∙ first_more n program stmt (state_of base) there
          ∙ ap (λ e. next (n + 1) e (run_of_first n program (state_of base))) (ap (effect stmt) (sym way.first.state) ∙ sym (effect_told stmt (state_of tables) outcome is))

      pub one_more : (logs : Bool) (new : Going) (after : List Table) → is_refused going.reply ≡ false → logs ≡ nat_lt (n + 1) refusing → IsAccepted (n + 1) stmt outcome keeps logs going tables new after → IsUnderWay program base keeps refusing (n + 1) new after
      one_more logs new after goes is_logged done = record {
        fits = way.fits;
        indexes = way.indexes;
        is_state = way.is_state;
        wide = way.wide;
        last = way.last;
        first = record {
          within = (let lt = slice_get_within program n stmt there in omega arith);
          reply = done.reply ∙ ap (λ (r : Reply). if refused_by stmt outcome then Refused (n + 1) else with_prints (n + 1) stmt outcome r) way.first.reply ∙ sym (next_reply (n + 1) stmt outcome before.0 before.1 going_on) ∙ sym (ap (λ (out : Reply × Marks). out.0) (whole goes));
          marks = done.marks ∙ ap (λ (m : Marks). if refused_by stmt outcome then [] else and_then_if keeps m (written_by stmt outcome)) way.first.marks ∙ kept keeps (refused_by stmt outcome) ∙ ap (kept_if keeps) marks_are;
          went_on = λ j lt. elim (cases_lt j n) [
            | inl below ↦ way.first.went_on j below
            | inr le ↦ (let last : n ≡ j = omega arith in subst (λ k. is_refused (run_of_first k program (state_of base)).0 ≡ false) last going_on)
          ];
          state = state_after (refused_by stmt outcome) refl;
          indexes = λ relation columns. done.indexes relation columns ∙ way.first.indexes relation columns;
          back = back_after (refused_by stmt outcome) refl;
        };
      }
        where
          before : Reply × Marks
          before = run_of_first n program (state_of base)

          going_on : is_refused before.0 ≡ false
          going_on = ap is_refused (sym way.first.reply) ∙ goes

          marks_are : marks_past stmt outcome before.1 ≡ (run_of_first (n + 1) program (state_of base)).1
          marks_are = sym (next_marks (n + 1) stmt outcome before.0 before.1 going_on) ∙ sym (ap (λ (out : Reply × Marks). out.1) (whole goes))

          kept : (k b : Bool) → (if b then [] else and_then_if k (kept_if k before.1) (written_by stmt outcome)) ≡ kept_if k (if b then [] else and_then before.1 (written_by stmt outcome))
          kept true b = refl
          kept false true = refl
          kept false false = refl

          refused_now : (b : Bool) → refused_by stmt outcome ≡ b → is_refused new.reply ≡ b
          refused_now b e = ap is_refused (done.reply ∙ ap (λ (r : Reply). if refused_by stmt outcome then Refused (n + 1) else with_prints (n + 1) stmt outcome r) way.first.reply ∙ sym (next_reply (n + 1) stmt outcome before.0 before.1 going_on)) ∙ next_refused (n + 1) stmt outcome before.0 before.1 going_on ∙ e

          state_after : (b : Bool) → refused_by stmt outcome ≡ b → state_of after ≡ laid (state_of base) (run_of_first (n + 1) program (state_of base)).1
          state_after true e =
              done.taken_back e (state_of base) (back_here goes e)
              ∙ ap (laid (state_of base)) (sym (ap (λ c. if c then [] else and_then before.1 (written_by stmt outcome)) e))
              ∙ ap (laid (state_of base)) marks_are
          state_after false e =
              (done.written e).state
              ∙ ap (λ (s : State). laid s (written_by stmt outcome)) way.first.state
              ∙ laid_twice (state_of base) before.1 (written_by stmt outcome) (rises (state_of base) way.is_state) (run_ascends (take n program) (state_of base))
              ∙ ap (laid (state_of base)) (sym (ap (λ c. if c then [] else and_then before.1 (written_by stmt outcome)) e))
              ∙ ap (laid (state_of base)) marks_are

          back_after : (b : Bool) → refused_by stmt outcome ≡ b → is_refused new.reply ≡ false → n + 1 < refusing → IsBack (state_of base) (state_of after) new.undo.items
          back_after true e on lt = absurd (true≢false (sym (refused_now true e) ∙ on))
          back_after false e on lt = (done.written e).back (is_logged ∙ lt_true (n + 1) refusing lt) (state_of base) (way.first.back goes (omega arith))

  -- ---- the end

  pub way_replied : AreReplied going.reply
  way_replied = subst AreReplied (sym way.first.reply) (first_fits n program (state_of base) way.first.within way.is_state way.fits).1

  -- none is left, or the last of them was refused
  pub first_whole : (is_refused going.reply || n == length program) ≡ true → run_of_first n program (state_of base) ≡ run program (state_of base)
  first_whole over = elim (or_cases (is_refused going.reply) (n == length program) over) [
    | inl refused ↦ refused_whole n program (state_of base) (ap is_refused (sym way.first.reply) ∙ refused)
    | inr all ↦ let e = eqb-true n (length program) all in ap (λ stmts. run stmts (state_of base)) (take_all n program (omega arith))
  ]

  pub way_fits : (is_refused going.reply || n == length program) ≡ true → FitMarks (state_of base) (run program (state_of base)).1
  way_fits over = subst (λ (out : Reply × Marks). FitMarks (state_of base) out.1) (first_whole over) so_far_fit

  pub first_ends : (is_refused going.reply || n == length program) ≡ true → n ≡ ends_at program (state_of base)
  first_ends over = first_end program (state_of base) n way.first.within way.first.went_on (λ lt. elim (or_cases (is_refused going.reply) (n == length program) over) [
    | inl refused ↦ ap is_refused (sym way.first.reply) ∙ refused
    | inr all ↦ (let e = eqb-true n (length program) all in absurd (omega (arith, e, lt)))
  ])

  -- some are left, and the program goes on
  pub first_goes : (is_refused going.reply || n == length program) ≡ false → is_refused going.reply ≡ false
  first_goes on = (or_parts (is_refused going.reply) (n == length program) on).0

  pub first_more_left : (is_refused going.reply || n == length program) ≡ false → n < length program
  first_more_left on = elim (cases_lt n (length program)) [
    | inl lt ↦ lt
    | inr le ↦ let e : n ≡ length program = omega (arith, way.first.within) in absurd (true≢false (sym (eq-eqb n (length program) e) ∙ (or_parts (is_refused going.reply) (n == length program) on).1))
  ]

  -- what the next one took, on the state before it
  pub step_cost : (most : Body → State → ℕ) (mid now : ℕ) → now ≤ mid + cost_on_by most (slice_get program n) (state_of tables) → now ≤ mid + cost_on_by most (slice_get program n) (state_before n program (state_of base))
  step_cost most mid now cost = subst (λ (s : State). now ≤ mid + cost_on_by most (slice_get program n) s) way.first.state cost

  pub first_begun : (most : Body → State → ℕ) → (is_refused going.reply || n == length program) ≡ false → (begun mid now : ℕ) → mid ≤ begun + cost_of_first_by most n program (state_of base)
      → now ≤ mid + cost_on_by most (slice_get program n) (state_of tables) → now ≤ begun + cost_of_first_by most (ends_at program (state_of base)) program (state_of base)
  first_begun most on begun mid now before step =
      cost_within most program (state_of base) begun mid now n (first_goes_on program (state_of base) n way.first.within way.first.went_on (ap is_refused (sym way.first.reply) ∙ first_goes on) (first_more_left on)) before (step_cost most mid now step)

-- the statement at a place
pub first_there : (program xs : List Stmt) (n : ℕ) (stmt : Stmt) → xs ≡ program → n < length program → stmt ≡ get_or xs n stmt → slice_get program n ≡ Some stmt
first_there program xs n stmt same lt is = slice_get-get_or program n stmt lt ∙ ap Some (sym (is ∙ ap (λ (l : List Stmt). get_or l n stmt) same))

-- ---- statements that may refuse

pub within_less : (k count : ℕ) (program : List Stmt) (stmt : Stmt) → k + 1 ≡ count → count ≤ length program → stmt ≡ get_or program k stmt → is_refusing stmt ≡ false → AreWithin count program → AreWithin k program
within_less k count program stmt one le at none all j other there refuses =
    elim (cases_lt j k) [
      | inl lt ↦ lt
      | inr ge ↦
          let below = all j other there refuses in
          let same : j ≡ k = omega arith in
          let mine : slice_get program k ≡ Some stmt = slice_get-get_or program k stmt (omega arith) ∙ ap Some (sym at) in
          let theirs : slice_get program k ≡ Some other = ap (slice_get program) (sym same) ∙ there in
          let equal : stmt ≡ other = some_is stmt other (sym mine ∙ theirs) in
          absurd (true≢false (sym refuses ∙ ap is_refusing (sym equal) ∙ none))
    ]
  where
    some_is : (x y : Stmt) → Some x ≡ Some y → x ≡ y
    some_is x y e = cc

-- ---- what comes of an outcome

module _ (number : ℕ) (stmt : Stmt) (outcome : Found) (keeps logs : Bool) (old : Going) (before : List Table) (new : Going) (after : List Table) where
  pub refusal : refused_by stmt outcome ≡ true → new.reply ≡ Refused number → new.marks ≡ [] → ((base : State) → IsBack base (state_of before) old.undo.items → state_of after ≡ base)
      → ((relation : ℕ) (columns : List ℕ) → has_index after relation columns ≡ has_index before relation columns) → IsAccepted number stmt outcome keeps logs old before new after
  refusal refused reply marks back indexes = record {
    reply = reply ∙ ap (λ b. if b then Refused number else with_prints number stmt outcome old.reply) (sym refused);
    marks = marks ∙ ap (λ b. if b then [] else and_then_if keeps old.marks (written_by stmt outcome)) (sym refused);
    written = λ on. absurd (true≢false (sym refused ∙ on));
    taken_back = λ off. back;
    indexes = indexes;
  }

  pub acceptance : (noted : Marks) → refused_by stmt outcome ≡ false → new.reply ≡ with_prints number stmt outcome old.reply → new.marks ≡ and_then_if keeps old.marks (written_by stmt outcome) → new.undo.items ≡ noted
      → IsWritten (written_by stmt outcome) logs before after old.undo.items noted → IsAccepted number stmt outcome keeps logs old before new after
  acceptance noted on reply marks undo written = record {
    reply = reply ∙ ap (λ b. if b then Refused number else with_prints number stmt outcome old.reply) (sym on);
    marks = marks ∙ ap (λ b. if b then [] else and_then_if keeps old.marks (written_by stmt outcome)) (sym on);
    written = λ still. subst (IsWritten (written_by stmt outcome) logs before after old.undo.items) (sym undo) written;
    taken_back = λ refused. absurd (true≢false (sym refused ∙ on));
    indexes = written.indexes;
  }
