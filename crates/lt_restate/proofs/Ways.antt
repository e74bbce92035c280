-- What is so while a program is restated goes on.
use Rattle.std.proofs.Common.{◌≡◌, ℕ, zero, suc, ◌+◌, ◌<◌, ◌≤◌, true, List, [], ◌∷◌, ◌++◌, length, Some, refl, sym, ap, ◌∙◌, inl, inr, subst, arith}
use Rattle.std.specs.Prelude.{slice_get, ◌⊎◌}
use Rattle.lt_face.specs.State.{Row, State, AgreeOn}
use Rattle.lt_model.specs.Fits.{FitMarks}
use Rattle.lt_model.specs.Marks.{Marks}
use Rattle.lt_model.specs.State.{IsState}
use Rattle.lt_query.specs.Runnable.{AreWide}
use Rattle.lt_base.specs.Changed.{differ_on}
use Rattle.lt_base.specs.Tables.{Table, state_of}
use Rattle.lt_base.proofs.Apart.{differ}
use Rattle.lt_sense.specs.Sense.{AgreeWhereCovered}
use Rattle.lt_program.specs.Part.{Part}
use Rattle.lt_program.specs.Tally.{TallyView, IsRun, IsOneMore, run_of_first, sense_of}
use Rattle.lt_program.proofs.TallyCosts.{one_longer}
use Rattle.lt_restate.specs.declared.touch.Touch.{Touch}
use Rattle.lt_restate.specs.declared.walk.Walk.{Walk}
use Rattle.lt_restate.specs.Bases.{widths, IsBase, AreAlike}
use Rattle.lt_restate.specs.Touches.{IsTouchOn, AreMendedAt, AreTouches, before}
use Rattle.lt_restate.specs.Walked.{is_named, IsUnderWay}
use Rattle.lt_restate.proofs.Touching.{touches_begun, touches_first, touches_kept, touches_again}

pub there_is : {X : Type 0} (xs : List X) (n : ℕ) → n < length xs → (x : X) × (slice_get xs n ≡ Some x)
there_is [] n lt = absurd (omega arith)
there_is (x ∷ xs) zero lt = (x, refl)
there_is (x ∷ xs) (suc n) lt = there_is xs n (omega arith)

-- a list of marks is of each row on which the states differ, or another is
abbrev pub AreMarked : State → State → Marks → Marks → Type 0
AreMarked s t old_on new_on = (relation : ℕ) (row : Row) → differ_on s t relation row ≡ true → (is_named old_on relation row ≡ true) ⊎ (is_named new_on relation row ≡ true)

pub bases_alike : (old new old_base new_base : List Table) → old_base ≡ old → new_base ≡ new → IsState (state_of old_base) → AreWide (state_of old_base) → IsState (state_of new_base) → widths (state_of new) ≡ widths (state_of old) → AreAlike (state_of old) (state_of new)
bases_alike old new old_base new_base old_is new_is state wide is relations = record {
  base = subst (λ (b : List Table). IsBase (state_of b)) old_is (record { is_state = state; wide = wide });
  is_state = subst (λ (b : List Table). IsState (state_of b)) new_is is;
  relations = relations;
}

pub way_begun : (old new : TallyView) (old_on new_on : Marks) (walk : Walk) → length old.program ≤ 64 → new.program ≡ old.program → IsRun old → IsRun new → new.parts ≡ [] → AreAlike (state_of old.base) (state_of new.base)
    → ((relation : ℕ) (row : Row) → AgreeOn (state_of old.base) (state_of new.base) relation row ⊎ ((is_named old_on relation row ≡ true) ⊎ (is_named new_on relation row ≡ true)))
    → walk ≡ record { past = []; touches = [] } → IsUnderWay old new old_on new_on walk
way_begun old new old_on new_on walk few program old_run run none alike all made = subst (IsUnderWay old new old_on new_on) (sym made) (record {
  program = program;
  old_run = old_run;
  run = run;
  few = few;
  past = λ lt. ap (λ n. (run_of_first n old.program (state_of old.base)).1) (sym (ap length none));
  past_fits = tt;
  alike = alike;
  bases = λ relation row differs. elim (all relation row) [ inl agree ↦ absurd (differ (state_of old.base) (state_of new.base) relation row differs agree) | inr there ↦ there ];
  touches = touches_begun old new none;
})

module _ (old t new : TallyView) (old_on new_on : Marks) (walk : Walk) (h : IsUnderWay old t old_on new_on walk) (one : IsOneMore t new) where
  bases_moved : AreMarked (state_of old.base) (state_of new.base) old_on new_on
  bases_moved relation row differs = h.bases relation row (subst (λ (b : List Table). differ_on (state_of old.base) (state_of b) relation row ≡ true) one.base differs)

  alike_moved : AreAlike (state_of old.base) (state_of new.base)
  alike_moved = subst (λ (b : List Table). AreAlike (state_of old.base) (state_of b)) (sym one.base) h.alike

  long : length new.parts ≡ length t.parts + 1
  long = omega (arith, one_longer t new one)

  pub way_first : length old.parts ≤ length t.parts → IsUnderWay old new old_on new_on walk
  way_first le = record {
    program = one.program ∙ h.program;
    old_run = h.old_run;
    run = one.run;
    few = h.few;
    past = λ lt. absurd (omega (arith, le, lt, one_longer t new one));
    past_fits = h.past_fits;
    alike = alike_moved;
    bases = bases_moved;
    touches = touches_first old t new one walk.touches h.touches le;
  }

  -- with the old marks after the statement
  went : (past : Marks) (touches : List Touch) (after : Walk) → past ≡ (run_of_first (length t.parts + 1) old.program (state_of old.base)).1 → FitMarks (state_of old.base) past → AreTouches old new touches → after ≡ record { past = past; touches = touches } → IsUnderWay old new old_on new_on after
  went past touches after past_is fit are made = subst (IsUnderWay old new old_on new_on) (sym made) (record {
    program = one.program ∙ h.program;
    old_run = h.old_run;
    run = one.run;
    few = h.few;
    past = λ lt. past_is ∙ ap (λ k. (run_of_first k old.program (state_of old.base)).1) (sym long);
    past_fits = fit;
    alike = alike_moved;
    bases = bases_moved;
    touches = are;
  })

  pub way_again : (part : Part) (touch : Touch) (past : Marks) (after : Walk) → slice_get old.parts (length t.parts) ≡ Some part → IsTouchOn (length t.parts) part (before (length t.parts) old) (before (length t.parts) t) touch → AreMendedAt old new (length t.parts)
      → past ≡ (run_of_first (length t.parts + 1) old.program (state_of old.base)).1 → FitMarks (state_of old.base) past → after ≡ record { past = past; touches = walk.touches ++ touch ∷ [] } → IsUnderWay old new old_on new_on after
  way_again part touch past after at is mend past_is fit made = went past (walk.touches ++ touch ∷ []) after past_is fit (touches_again old t new one walk.touches h.touches part touch at is mend) made

  pub way_kept : (part : Part) (past : Marks) (after : Walk) → slice_get old.parts (length t.parts) ≡ Some part → new.parts ≡ t.parts ++ part ∷ [] → AgreeWhereCovered (sense_of part) (before (length t.parts) old) (before (length t.parts) t)
      → past ≡ (run_of_first (length t.parts + 1) old.program (state_of old.base)).1 → FitMarks (state_of old.base) past → after ≡ record { past = past; touches = walk.touches } → IsUnderWay old new old_on new_on after
  way_kept part past after at grown agree past_is fit made = went past walk.touches after past_is fit (touches_kept old t new one walk.touches h.touches part at agree grown) made
