-- One step of a restatement.
use Rattle.std.proofs.Common.{◌≡◌, ℕ, ◌<◌, true, List, length, Some, get_or, sym, ap, ◌∙◌, subst, arith}
use Rattle.std.specs.Prelude.{slice_get}
use Rattle.lt_face.specs.State.{Row, State}
use Rattle.lt_model.specs.Marks.{Marks, laid}
use Rattle.lt_base.specs.Tables.{state_of}
use Rattle.std.proofs.lemmas.Option.{slice_get_within}
use Rattle.lt_join.specs.Mended.{HaveTouched}
use Rattle.lt_model.specs.declared.normal.Stmt.{Stmt}
use Rattle.lt_sense.specs.Done.{AreAskable}
use Rattle.lt_sense.specs.Sense.{AgreeWhereCovered, IsTight}
use Rattle.lt_program.specs.Part.{Part}
use Rattle.lt_program.specs.Tally.{TallyView, is_next_sliced, is_sliced_at, sense_of}
use Rattle.lt_program.proofs.Keeps.{got}
use Rattle.lt_restate.specs.declared.touch.Touch.{Touch}
use Rattle.lt_restate.specs.declared.walk.Walk.{Walk}
use Rattle.lt_restate.specs.Bases.{AreRowsOf}
use Rattle.lt_restate.specs.Changes.{touched_on}
use Rattle.lt_restate.specs.Covered.{AreCoveredChanges}
use Rattle.lt_restate.specs.Touches.{IsTouchOn, before}
use Rattle.lt_restate.specs.Walked.{IsUnderWay}
use Rattle.lt_restate.proofs.Asking.{all_askable}
use Rattle.lt_restate.proofs.TouchedKeys.{have_touched}
use Rattle.lt_restate.proofs.Ways.{there_is}

abbrev pub walk_of : Marks → List Touch → Walk
walk_of past touches = record { past = past; touches = touches }

pub walk_is : (p q : Marks) (t u : List Touch) → p ≡ q → t ≡ u → walk_of p t ≡ walk_of q u
walk_is p q t u a b = λ i. record { past = a i; touches = b i }

some_is : {X : Type 0} (x y : X) → Some x ≡ Some y → x ≡ y
some_is x y e = cc

module _ (old t : TallyView) (xs : List Part) (place : ℕ) (x : Part) (list : xs ≡ old.parts) (number : place ≡ length t.parts) (below : place < length old.parts) (there : x ≡ get_or xs place x) where
  at : slice_get old.parts (length t.parts) ≡ Some x
  at = subst (λ n. slice_get old.parts n ≡ Some x) number (got old.parts xs place x list below there)

  pub step_agree : AgreeWhereCovered (sense_of x) (before (length t.parts) old) (before (length t.parts) t) → (part : Part) → slice_get old.parts (length t.parts) ≡ Some part → AgreeWhereCovered (sense_of part) (before (length t.parts) old) (before (length t.parts) t)
  step_agree agree part is = subst (λ (p : Part). AgreeWhereCovered (sense_of p) (before (length t.parts) old) (before (length t.parts) t)) (some_is x part (sym at ∙ is)) agree

  pub step_part : slice_get old.parts (length t.parts) ≡ Some x
  step_part = at

module _ (old t : TallyView) (old_on new_on : Marks) (walk : Walk) (h : IsUnderWay old t old_on new_on walk) (part : Part) (at : slice_get old.parts (length t.parts) ≡ Some part) where
  past_laid : laid (state_of old.base) walk.past ≡ before (length t.parts) old
  past_laid = ap (laid (state_of old.base)) (h.past (slice_get_within old.parts (length t.parts) part at))

  -- the old part is tight on the state before it
  pub part_tight : IsTight (sense_of part) (laid (state_of old.base) walk.past)
  part_tight =
      let below = slice_get_within old.parts (length t.parts) part at in
      let stmt = there_is old.program (length t.parts) (let e = h.old_run.evaluated in omega arith) in
      subst (IsTight (sense_of part)) (sym past_laid) (h.old_run.parts (length t.parts) stmt.0 part stmt.1 at).tight

  pub changes_here : (changes : List (ℕ × Row)) → AreCoveredChanges (sense_of part) (laid (state_of old.base) walk.past) (before (length t.parts) t) changes → AreCoveredChanges (sense_of part) (before (length t.parts) old) (before (length t.parts) t) changes
  changes_here changes are = subst (λ (s : State). AreCoveredChanges (sense_of part) s (before (length t.parts) t) changes) past_laid are

  pub changes_there : (changes : List (ℕ × Row)) → AreCoveredChanges (sense_of part) (before (length t.parts) old) (before (length t.parts) t) changes → AreCoveredChanges (sense_of part) (laid (state_of old.base) walk.past) (before (length t.parts) t) changes
  changes_there changes are = subst (λ (s : State). AreCoveredChanges (sense_of part) s (before (length t.parts) t) changes) (sym past_laid) are

  pub agree_here : AgreeWhereCovered (sense_of part) (laid (state_of old.base) walk.past) (before (length t.parts) t) → AgreeWhereCovered (sense_of part) (before (length t.parts) old) (before (length t.parts) t)
  agree_here agree = subst (λ (s : State). AgreeWhereCovered (sense_of part) s (before (length t.parts) t)) past_laid agree

  pub touch_here : (touch : Touch) → IsTouchOn (length t.parts) part (laid (state_of old.base) walk.past) (before (length t.parts) t) touch → IsTouchOn (length t.parts) part (before (length t.parts) old) (before (length t.parts) t) touch
  touch_here touch is = subst (λ (s : State). IsTouchOn (length t.parts) part s (before (length t.parts) t) touch) past_laid is

  pub tight_by : (q : Part) → q ≡ part → IsTight (sense_of q) (laid (state_of old.base) walk.past)
  tight_by q q_is = subst (λ (p : Part). IsTight (sense_of p) (laid (state_of old.base) walk.past)) (sym q_is) part_tight

  -- the same by a part that is the old one
  module _ (q : Part) (q_is : q ≡ part) (changes : List (ℕ × Row)) (are : AreCoveredChanges (sense_of part) (before (length t.parts) old) (before (length t.parts) t) changes) where
    are_so : AreCoveredChanges (sense_of q) (laid (state_of old.base) walk.past) (before (length t.parts) t) changes
    are_so = subst (λ (p : Part). AreCoveredChanges (sense_of p) (laid (state_of old.base) walk.past) (before (length t.parts) t) changes) (sym q_is) (changes_there changes are)

    pub agree_by : ((u : State) → AreCoveredChanges (sense_of q) (laid (state_of old.base) walk.past) u changes → AgreeWhereCovered (sense_of q) (laid (state_of old.base) walk.past) u) → AgreeWhereCovered (sense_of part) (before (length t.parts) old) (before (length t.parts) t)
    agree_by none = agree_here (subst (λ (p : Part). AgreeWhereCovered (sense_of p) (laid (state_of old.base) walk.past) (before (length t.parts) t)) q_is (none (before (length t.parts) t) are_so))

    pub touch_by : (n : ℕ) → n ≡ length t.parts → (touch : Touch) → ((u : State) → AreCoveredChanges (sense_of q) (laid (state_of old.base) walk.past) u changes → IsTouchOn n q (laid (state_of old.base) walk.past) u touch)
        → IsTouchOn (length t.parts) part (before (length t.parts) old) (before (length t.parts) t) touch
    touch_by n n_is touch some =
        touch_here touch (subst (λ (p : Part). IsTouchOn (length t.parts) p (laid (state_of old.base) walk.past) (before (length t.parts) t) touch) q_is
        (subst (λ k. IsTouchOn k q (laid (state_of old.base) walk.past) (before (length t.parts) t) touch) n_is (some (before (length t.parts) t) are_so)))

  -- it may be asked of rows that their relations can have
  pub part_askable : (changes : List (ℕ × Row)) → AreRowsOf (state_of old.base) changes → AreAskable (sense_of part) changes
  part_askable changes rows = all_askable (state_of old.base) walk.past h.alike.base h.past_fits (sense_of part) part_tight changes rows

  -- it keeps slices where the statement is kept by them
  pub part_by_key : is_next_sliced t ≡ true → part.by_key ≡ true
  part_by_key sliced =
      let below = slice_get_within old.parts (length t.parts) part at in
      let stmt = there_is old.program (length t.parts) (let e = h.old_run.evaluated in omega arith) in
      (h.old_run.parts (length t.parts) stmt.0 part stmt.1 at).sliced.by_key
      ∙ (ap is_sliced_at (sym stmt.1) ∙ (ap (λ (p : List Stmt). is_sliced_at (slice_get p (length t.parts))) (sym h.program) ∙ sliced))

  pub mend_touched : (keys : List ℕ) → keys ≡ touched_on part (before (length t.parts) old) (before (length t.parts) t) → (p : Part) → slice_get old.parts (length t.parts) ≡ Some p → HaveTouched keys p.sense p.slices (before (length t.parts) old) (before (length t.parts) t)
  mend_touched keys e p at_p =
      subst (λ (q : Part). HaveTouched keys q.sense q.slices (before (length t.parts) old) (before (length t.parts) t)) (some_is part p (sym at ∙ at_p))
      (subst (λ (ks : List ℕ). HaveTouched ks part.sense part.slices (before (length t.parts) old) (before (length t.parts) t)) (sym e) (have_touched part (before (length t.parts) old) (before (length t.parts) t)))
