-- The levels of any order of terms are right for the body.
use Rattle.std.specs.Prelude.{◌≡◌, ℕ, zero, suc, ◌+◌, ◌<◌, true, false, ◌==◌, List, [], ◌∷◌, ◌++◌, length}
use Rattle.std.specs.List.{AllByRecursion}
use Rattle.std.proofs.Common.{refl, sym, ap, ◌∙◌, subst, inl, inr, cond, arith, get_or, append_assoc}
use Rattle.std.proofs.lemmas.Bool.{eqb-true}
use Rattle.lt_model.specs.declared.normal.Term.{Term}
use Rattle.lt_model.specs.declared.normal.Term.TheVariants.{Var, Cell}
use Rattle.lt_model.specs.declared.syntax.Op.TheVariants.{Eq}
use Rattle.lt_model.specs.declared.normal.Test.{Test}
use Rattle.lt_model.specs.declared.normal.Test.TheVariants.{Cmp}
use Rattle.lt_model.specs.declared.normal.Body.{Body}
use Rattle.lt_face.specs.Lists.{IsIn}
use Rattle.lt_face.proofs.RowLemmas.{each_weaker}
use Rattle.lt_model.specs.Bound.{is_var, stands}
use Rattle.lt_query.specs.Plan.{term_at, IsPinOf, IsDetermined, IsLevelOf, AreLevelsFrom}
use Rattle.lt_query.specs.LevelsOf.{constants_of, first_place, pins_of, ties_of, levels_from}
use Rattle.lt_query.proofs.Standing.{is_var-true, is_var_itself}

pub term_at-levels_from : (tests : List Test) (seen ts : List Term) (m : ℕ) → term_at (levels_from tests seen ts) m ≡ get_or ts m (Cell 0)
term_at-levels_from tests seen [] m = refl
term_at-levels_from tests seen (t ∷ ts) zero = refl
term_at-levels_from tests seen (t ∷ ts) (suc m) = term_at-levels_from tests (seen ++ t ∷ []) ts m

get_seen : (seen ts : List Term) (m : ℕ) → m < length seen → get_or (seen ++ ts) m (Cell 0) ≡ get_or seen m (Cell 0)
get_seen [] ts m h = absurd (omega arith)
get_seen (s ∷ seen) ts zero h = refl
get_seen (s ∷ seen) ts (suc m) h = get_seen seen ts m (omega arith)

get_next : (seen : List Term) (t : Term) (ts : List Term) → get_or (seen ++ t ∷ ts) (length seen) (Cell 0) ≡ t
get_next [] t ts = refl
get_next (s ∷ seen) t ts = get_next seen t ts

constants_pinned : (tests : List Test) (v : ℕ) → AllByRecursion (IsPinOf tests (Var v)) (constants_of tests v)
constants_pinned [] v = tt
constants_pinned (Cmp (Var u) Eq (Cell c) ∷ tests) v =
    let rest : AllByRecursion (IsPinOf (Cmp (Var u) Eq (Cell c) ∷ tests) (Var v)) (constants_of tests v) = each_weaker (IsPinOf tests (Var v)) (IsPinOf (Cmp (Var u) Eq (Cell c) ∷ tests) (Var v)) (λ x h. inr h) (constants_of tests v) (constants_pinned tests v) in
    elim (u == v) as (λ b. (u == v) ≡ b → AllByRecursion (IsPinOf (Cmp (Var u) Eq (Cell c) ∷ tests) (Var v)) (cond b (c ∷ constants_of tests v) (constants_of tests v)))
    [ true ↦ λ e. (inl (ap (λ w. Cmp (Var w) Eq (Cell c)) (eqb-true u v e)), rest) | false ↦ λ e. rest ] refl
constants_pinned (test ∷ tests) v = each_weaker (IsPinOf tests (Var v)) (IsPinOf (test ∷ tests) (Var v)) (λ x h. inr h) (constants_of tests v) (constants_pinned tests v)

pins_right : (tests : List Test) (seen : List Term) (t : Term) → AllByRecursion (IsPinOf tests t) (pins_of tests seen t)
pins_right tests seen (Cell c) = (refl, tt)
pins_right tests seen (Var v) =
    elim (stands seen v) as (λ b. AllByRecursion (IsPinOf tests (Var v)) (cond b [] (constants_of tests v))) [ true ↦ tt | false ↦ constants_pinned tests v ]

first_place_right : (l : ℕ) (ts : List Term) (v : ℕ) (P : ℕ → Type 0) → ((i : ℕ) → i < length ts → get_or ts i (Cell 0) ≡ Var v → P (l + i)) → AllByRecursion P (first_place l ts v)
first_place_right l [] v P f = tt
first_place_right l (t ∷ ts) v P f =
    elim (is_var v t) as (λ b. is_var v t ≡ b → AllByRecursion P (cond b (l ∷ []) (first_place (l + 1) ts v))) [
      | true ↦ λ e. (subst P (let s : l + 0 ≡ l = omega arith in s) (f 0 (omega arith) (is_var-true v t e)), tt)
      | false ↦ λ e. first_place_right (l + 1) ts v P (λ i lt is. subst P (let s : l + suc i ≡ (l + 1) + i = omega arith in s) (f (suc i) (omega arith) is))
    ] refl

first_place_is : (l : ℕ) (ts : List Term) (v i : ℕ) → i < length ts → get_or ts i (Cell 0) ≡ Var v → ((j : ℕ) → j < i → get_or ts j (Cell 0) ≡ Var v → ⊥) → IsIn (l + i) (first_place l ts v)
first_place_is l [] v i lt is none = absurd (omega arith)
first_place_is l (t ∷ ts) v zero lt is none =
    let here : is_var v t ≡ true = rw is (is_var_itself v) in
    rw here (inl (let s : l ≡ l + 0 = omega arith in s))
first_place_is l (t ∷ ts) v (suc i) lt is none =
    elim (is_var v t) as (λ b. is_var v t ≡ b → IsIn (l + suc i) (cond b (l ∷ []) (first_place (l + 1) ts v))) [
      | true ↦ λ e. absurd (none 0 (omega arith) (is_var-true v t e))
      | false ↦ λ e. subst (λ n. IsIn n (first_place (l + 1) ts v)) (let s : (l + 1) + i ≡ l + suc i = omega arith in s) (first_place_is (l + 1) ts v i (omega arith) is (λ j lt' is'. none (suc j) (omega arith) is'))
    ] refl

length_seen : (seen : List Term) (t : Term) → length (seen ++ t ∷ []) ≡ length seen + 1
length_seen [] t = refl
length_seen (s ∷ seen) t = let e = length_seen seen t in omega arith

module _ (body : Body) (order : List Term) where
  level_right : (seen : List Term) (t : Term) (ts : List Term) → order ≡ seen ++ t ∷ ts → IsLevelOf body (levels_from body.tests [] order) (length seen) (record { term = t; pins = pins_of body.tests seen t; ties = ties_of seen t })
  level_right seen t ts e = record {
    term = term_at-levels_from body.tests [] order (length seen) ∙ (ap (λ w. get_or w (length seen) (Cell 0)) e ∙ get_next seen t ts);
    pins = pins_right body.tests seen t;
    ties = ties_right t refl;
    determined = determined t refl;
  }
    where
      at_seen : (m : ℕ) → m < length seen → term_at (levels_from body.tests [] order) m ≡ get_or seen m (Cell 0)
      at_seen m lt = term_at-levels_from body.tests [] order m ∙ (ap (λ w. get_or w m (Cell 0)) e ∙ get_seen seen (t ∷ ts) m lt)

      ties_right : (u : Term) → t ≡ u → AllByRecursion (λ m. (m < length seen) × (term_at (levels_from body.tests [] order) m ≡ t)) (ties_of seen u)
      ties_right (Cell c) is = tt
      ties_right (Var v) is = first_place_right 0 seen v (λ m. (m < length seen) × (term_at (levels_from body.tests [] order) m ≡ t)) (λ i lt has. ((omega arith), (let s : 0 + i ≡ i = omega arith in rw s (at_seen i lt ∙ (has ∙ sym is)))))

      determined : (u : Term) → t ≡ u → IsDetermined (levels_from body.tests [] order) (length seen) (record { term = t; pins = pins_of body.tests seen u; ties = ties_of seen u }) u
      determined (Cell c) is = inl refl
      determined (Var v) is = λ m lt first.
          subst (λ n. IsIn n (first_place 0 seen v)) (let s : 0 + m ≡ m = omega arith in s)
          (first_place_is 0 seen v m lt (sym (at_seen m lt) ∙ first.0) (λ j below has. first.1 j below (at_seen j (omega arith) ∙ has)))

  are_levels : (seen ts : List Term) → order ≡ seen ++ ts → AreLevelsFrom body (levels_from body.tests [] order) (length seen) (levels_from body.tests seen ts)
  are_levels seen [] e = tt
  are_levels seen (t ∷ ts) e = (
    level_right seen t ts e,
    subst (λ n. AreLevelsFrom body (levels_from body.tests [] order) n (levels_from body.tests (seen ++ t ∷ []) ts)) (length_seen seen t) (are_levels (seen ++ t ∷ []) ts (e ∙ sym (append_assoc seen (t ∷ []) ts))),
  )

  -- whatever the order
  pub AreLevels : AreLevelsFrom body (levels_from body.tests [] order) 0 (levels_from body.tests [] order)
  AreLevels = are_levels [] order refl
