-- What a walk has done at a leaf.
use Rattle.std.specs.Prelude.{◌≡◌, ℕ, ◌<◌, ◌≤◌, ◌^◌, ◌==◌, ◌⊎◌, ◌↔◌, Bool, true, false, List, [], ◌∷◌, length}
use Rattle.std.specs.List.{AllByRecursion, list_all}
use Rattle.std.proofs.Common.{refl, sym, ap, ◌∙◌, subst, inl, inr, arith}
use Rattle.std.proofs.lemmas.Bool.{cases_Bool, eqb-true, true≢false}
use Rattle.lt_face.specs.Lists.{IsIn, AnyByRecursion}
use Rattle.lt_face.specs.State.{Row}
use Rattle.lt_model.specs.declared.normal.Atom.{Atom}
use Rattle.lt_model.specs.Answers.{Assignment, Values, cells_of, give_all, passes}
use Rattle.lt_sense.specs.Kept.{Sense}
use Rattle.lt_sense.specs.Sense.{IsTight}
use Rattle.lt_join.specs.declared.Found.{Found}
use Rattle.lt_join.specs.Certify.{IsWitness, IsGapped, IsHitOf}
use Rattle.lt_join.specs.Cost.{GainsFewer}
use Rattle.lt_join.specs.Known.{IsKnown}
use Rattle.lt_join.specs.Values.{assigned}
use Rattle.lt_join.specs.Walked.{at, leaf_assignment, Grows, IsRight, IsReached}
use Rattle.lt_join.specs.Way.{WayView, IsWay, AreAllFound, EndsEarly, HasWalked}
use Rattle.lt_join.proofs.Known.{known_leaf}
use Rattle.lt_join.proofs.LookingUp.{Grows-none, gains_none, small_rows}
use Rattle.lt_join.proofs.Steps.{leaf_terms, leaf_with, leaf_witness, leaf_without, leaf_refused, witnesses_grow}

pub nil_of : {X : Type 0} (xs : List X) → (length xs == 0) ≡ true → xs ≡ []
nil_of [] e = refl
nil_of (x ∷ xs) e = let n = eqb-true (length (x ∷ xs)) 0 e in absurd (omega (arith, n))

-- the rows have this one, and no other that is new
pub record HasAdded (row : Row) (old new : List Row) : Type 0 where
  pub there : IsIn row new
  pub kept : (r : Row) → IsIn r old → IsIn r new
  pub each : (r : Row) → IsIn r new → IsIn r old ⊎ (r ≡ row)

-- a walk that stops has gone below the levels that are wanted
pub deep_enough : (way : WayView) (keys : List ℕ) → IsWay way → length keys ≡ length way.plan.levels → (way.first ≡ true) ⊎ EndsEarly way → way.wanted ≤ length keys
deep_enough way keys is full asked =
    elim asked [ inl first ↦ (let none = is.at_first first in omega (arith, none)) | inr early ↦ omega (arith, full, early.1) ]

module _ {S : Type 0} (way : WayView) (is_way : IsWay way) (keys : List ℕ) (full : length keys ≡ length way.plan.levels) (old : Found S) (reached : IsReached way.plan old.sense keys) (right : IsRight way.body way.terms way.state old) where
  -- the tests fail
  failed : (now : ℕ) → list_all (passes (leaf_assignment way.body way.plan.levels (at keys))) way.body.tests ≡ false → HasWalked way keys old old now now false
  failed now fails = record {
    gains = gains_none old.sense now;
    grows = record { sense = Grows-none old.sense; rows = λ row h. h };
    right = right;
    under = λ row h. inl h;
    explored = λ e. leaf_without way keys is_way.of_body full old reached fails;
    met = λ e. absurd (true≢false (sym e));
    asked = λ e. absurd (true≢false (sym e));
    deep = λ e. absurd (true≢false (sym e));
    all = λ e. absurd (true≢false (sym e));
    unfound = λ e. refl;
  }

  -- an absent row is there
  refused : (new : Found S) (begun now : ℕ) → new.rows ≡ old.rows → Grows old.sense new.sense → IsTight new.sense way.state → GainsFewer old.sense new.sense begun now
      → AnyByRecursion (IsHitOf new.sense (leaf_assignment way.body way.plan.levels (at keys))) way.body.absents → HasWalked way keys old new begun now false
  refused new begun now rows grows tight gains hit = record {
    gains = gains;
    grows = record { sense = grows; rows = λ row h. subst (IsIn row) (sym rows) h };
    right = record { tight = tight; answers = subst (AllByRecursion (IsWitness new.sense way.terms way.body way.state)) (sym rows) (witnesses_grow old.sense new.sense grows way.terms way.body way.state old.rows right.answers) };
    under = λ row h. inl (subst (IsIn row) rows h);
    explored = λ e. leaf_refused way keys is_way.of_body full old new reached grows hit;
    met = λ e. absurd (true≢false (sym e));
    asked = λ e. absurd (true≢false (sym e));
    deep = λ e. absurd (true≢false (sym e));
    all = λ e. absurd (true≢false (sym e));
    unfound = λ e. rows;
  }

  -- where the levels that are wanted decide the terms, the leaf's row is that of all that have its keys there
  all_found : (rows : List Row) → EndsEarly way → IsIn (cells_of (leaf_assignment way.body way.plan.levels (at keys)) way.terms) rows → AreAllFound way rows way.wanted (at keys)
  all_found rows early there a agree held stands lacks =
      let leaf = leaf_assignment way.body way.plan.levels (at keys) in
      subst (λ row. IsIn row rows) (is_way.decided early leaf a (λ m lt. leaf_terms way keys is_way.of_body full old.sense reached m (omega (arith, lt, early.1)) ∙ agree m lt)) there

  -- the tests hold, and all absent rows are absent
  answered : (new : Found S) (begun now : ℕ) (stopped : Bool) → ((stopped ≡ true) ↔ ((way.first ≡ true) ⊎ EndsEarly way)) → list_all (passes (leaf_assignment way.body way.plan.levels (at keys))) way.body.tests ≡ true → AllByRecursion (IsGapped new.sense (leaf_assignment way.body way.plan.levels (at keys))) way.body.absents
      → (way.first ≡ false → HasAdded (cells_of (leaf_assignment way.body way.plan.levels (at keys)) way.terms) old.rows new.rows) → (way.first ≡ true → new.rows ≡ old.rows)
      → Grows old.sense new.sense → IsTight new.sense way.state → GainsFewer old.sense new.sense begun now → HasWalked way keys old new begun now stopped
  answered new begun now stopped stops held gapped added same grows tight gains =
      let row : Row = cells_of (leaf_assignment way.body way.plan.levels (at keys)) way.terms in
      let answer : IsWitness new.sense way.terms way.body way.state row = leaf_witness way keys is_way.of_body full old new.sense reached held grows tight gapped in
      elim (cases_Bool way.first) [
        | inl first ↦
            let rows = same first in
            record {
              gains = gains;
              grows = record { sense = grows; rows = λ r h. subst (IsIn r) (sym rows) h };
              right = record { tight = tight; answers = subst (AllByRecursion (IsWitness new.sense way.terms way.body way.state)) (sym rows) (witnesses_grow old.sense new.sense grows way.terms way.body way.state old.rows right.answers) };
              under = λ r h. inl (subst (IsIn r) rows h);
              explored = λ e. elim e [ inl each ↦ absurd (true≢false (sym first ∙ each)) | inr goes ↦ absurd (true≢false (sym (stops.1 (inl first)) ∙ goes)) ];
              met = λ e. (row, answer);
              asked = stops.0;
              deep = λ e. deep_enough way keys is_way full (stops.0 e);
              all = λ e each. absurd (true≢false (sym first ∙ each));
              unfound = λ e. rows;
            }
        | inr each ↦
            let rows = added each in
            let done = leaf_with way keys is_way.of_body full old new reached right held grows tight gapped rows.there rows.each in
            record {
              gains = gains;
              grows = record { sense = grows; rows = rows.kept };
              right = done.0;
              under = done.2;
              explored = λ e. done.1;
              met = λ e. (row, answer);
              asked = stops.0;
              deep = λ e. deep_enough way keys is_way full (stops.0 e);
              all = λ e _. elim (stops.0 e) [ inl first ↦ absurd (true≢false (sym first ∙ each)) | inr early ↦ all_found new.rows early rows.there ];
              unfound = λ e. absurd (true≢false (sym e ∙ each));
            }
      ]

  -- ---- by the values that a walk knows

  module _ (values all : Values) (known : IsKnown way.plan.levels keys values) (given : all ≡ give_all values way.body.tests) where
    same_leaf : assigned all ≡ leaf_assignment way.body way.plan.levels (at keys)
    same_leaf = known_leaf way.body way.plan.levels keys values all full known given

    pub leaf_failed : (now : ℕ) → list_all (passes (assigned all)) way.body.tests ≡ false → HasWalked way keys old old now now false
    leaf_failed now fails = failed now (subst (λ (a : Assignment). list_all (passes a) way.body.tests ≡ false) same_leaf fails)

    pub leaf_hit : (new : Found S) (begun now : ℕ) → new.rows ≡ old.rows → Grows old.sense new.sense → IsTight new.sense way.state → GainsFewer old.sense new.sense begun now
        → AnyByRecursion (IsHitOf new.sense (assigned all)) way.body.absents → HasWalked way keys old new begun now false
    leaf_hit new begun now rows grows tight gains hit =
        refused new begun now rows grows tight gains (subst (λ (a : Assignment). AnyByRecursion (IsHitOf new.sense a) way.body.absents) same_leaf hit)

    pub leaf_answered : (new : Found S) (begun now : ℕ) (stopped : Bool) → ((stopped ≡ true) ↔ ((way.first ≡ true) ⊎ EndsEarly way)) → list_all (passes (assigned all)) way.body.tests ≡ true → AllByRecursion (IsGapped new.sense (assigned all)) way.body.absents
        → (way.first ≡ false → HasAdded (cells_of (assigned all) way.terms) old.rows new.rows) → (way.first ≡ true → new.rows ≡ old.rows)
        → Grows old.sense new.sense → IsTight new.sense way.state → GainsFewer old.sense new.sense begun now → HasWalked way keys old new begun now stopped
    leaf_answered new begun now stopped stops held gapped added same grows tight gains =
        answered new begun now stopped stops
        (subst (λ (a : Assignment). list_all (passes a) way.body.tests ≡ true) same_leaf held)
        (subst (λ (a : Assignment). AllByRecursion (IsGapped new.sense a) way.body.absents) same_leaf gapped)
        (subst (λ (a : Assignment). way.first ≡ false → HasAdded (cells_of a way.terms) old.rows new.rows) same_leaf added) same grows tight gains

    -- the cells of the negated atoms are small
    pub leaf_small : AllByRecursion (λ (atom : Atom). AllByRecursion (λ c. c < 2 ^ 120) (cells_of (assigned all) atom.terms)) way.body.absents
    leaf_small =
        subst (λ (a : Assignment). AllByRecursion (λ (atom : Atom). AllByRecursion (λ c. c < 2 ^ 120) (cells_of a atom.terms)) way.body.absents) (sym same_leaf)
        (small_rows way.body way.plan.levels keys full reached.cells is_way.prepared.tests way.body.absents is_way.prepared.absents)

  -- without tests and negated atoms
  pub leaf_plain : (values : Values) → IsKnown way.plan.levels keys values → way.body.tests ≡ [] → way.body.absents ≡ [] → (new : Found S) (now : ℕ) (stopped : Bool) → ((stopped ≡ true) ↔ ((way.first ≡ true) ⊎ EndsEarly way))
      → (way.first ≡ false → HasAdded (cells_of (assigned values) way.terms) old.rows new.rows) → (way.first ≡ true → new.rows ≡ old.rows) → new.sense ≡ old.sense → HasWalked way keys old new now now stopped
  leaf_plain values known no_tests no_absents new now stopped stops added same sense =
      let grows : Grows old.sense new.sense = subst (Grows old.sense) (sym sense) (Grows-none old.sense) in
      let tight : IsTight new.sense way.state = subst (λ (s : Sense). IsTight s way.state) (sym sense) right.tight in
      let gains : GainsFewer old.sense new.sense now now = subst (λ (s : Sense). GainsFewer old.sense s now now) (sym sense) (gains_none old.sense now) in
      leaf_answered values values known (sym (ap (give_all values) no_tests)) new now now stopped stops
      (ap (list_all (passes (assigned values))) no_tests)
      (subst (AllByRecursion (IsGapped new.sense (assigned values))) (sym no_absents) tt) added same grows tight gains
