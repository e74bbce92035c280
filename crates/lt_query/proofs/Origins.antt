-- Each variable of a place has one level of the stated order.
use Rattle.std.specs.Prelude.{◌≡◌, ℕ, zero, suc, ◌+◌, ◌<◌, ◌≤◌, Bool, true, false, List, [], ◌∷◌, ◌++◌, length, filter, ◌⊎◌}
use Rattle.std.proofs.Common.{refl, sym, ap, ◌∙◌, subst, inl, inr, cond, arith}
use Rattle.std.proofs.lemmas.Bool.{and_parts, and_from, eqb-true, eq-eqb, true≢false}
use Rattle.std.proofs.lemmas.List.Concat.{flat_map-append}
use Rattle.lt_model.specs.declared.normal.Term.{Term}
use Rattle.lt_model.specs.declared.normal.Term.TheVariants.{Var, Cell}
use Rattle.lt_model.specs.declared.normal.Test.{Test}
use Rattle.lt_query.specs.declared.places.Place.{Place}
use Rattle.lt_face.specs.Lists.{IsIn}
use Rattle.lt_query.specs.Lists.{IsDistinct}
use Rattle.lt_model.specs.Bound.{is_var}
use Rattle.lt_query.specs.Order.{place_at, first_from, origin_of, origin, is_pinned, is_as_pinned, original_of, is_first, is_original, is_tied_to, with_tied, originals, stated_order}
use Rattle.lt_query.specs.Lists.{below}
use Rattle.lt_query.proofs.Standing.{is_var-true, is_var_itself}
use Rattle.lt_face.proofs.Membership.{IsIn-append_left, IsIn-append_right, IsIn-append_cases, IsIn-flat_map, IsIn-flat_map_from}
use Rattle.lt_query.proofs.Distinct.{IsIn-filter, IsIn-filter_from, IsIn-below, IsIn-below_from, IsDistinct-append, IsDistinct-filter, IsDistinct-below, IsDistinct-flat_map}
use Rattle.lt_query.proofs.Text.{IsTold}

-- the first place of a variable is none after any of its places
pub first_found : (l : ℕ) (places : List Place) (v q : ℕ) → q < length places → (place_at places q).term ≡ Var v → (i : ℕ) × (first_from l places v ≡ l + i) × (i ≤ q) × ((place_at places i).term ≡ Var v)
first_found l [] v q lt is = absurd (omega arith)
first_found l (place ∷ places) v zero lt is =
    let yes : is_var v place.term ≡ true = rw is (is_var_itself v) in
    (0, rw yes (let s : l ≡ l + 0 = omega arith in s), (omega arith), is)
first_found l (place ∷ places) v (suc q) lt is =
    elim (is_var v place.term) as (λ b. is_var v place.term ≡ b → (i : ℕ) × (cond b l (first_from (l + 1) places v) ≡ l + i) × (i ≤ suc q) × ((place_at (place ∷ places) i).term ≡ Var v)) [
      | true ↦ λ e. (0, (let s : l ≡ l + 0 = omega arith in s), (omega arith), is_var-true v place.term e)
      | false ↦ λ e. let f = first_found (l + 1) places v q (omega arith) is in (suc f.0, (let s : first_from (l + 1) places v ≡ (l + 1) + f.0 = f.1 in omega arith), (let s : f.0 ≤ q = f.2 in omega arith), f.3)
    ] refl

pub is_as_pinned_itself : (b : Bool) → is_as_pinned b b ≡ true
is_as_pinned_itself true = refl
is_as_pinned_itself false = refl

is_as_pinned_apart : (b : Bool) → is_as_pinned true b ≡ true → is_as_pinned false b ≡ true → ⊥
is_as_pinned_apart true h k = true≢false (sym k)
is_as_pinned_apart false h k = true≢false (sym h)

abbrev pub T : List Place → ℕ → Term
T places p = (place_at places p).term

abbrev pub Again : List Place → ℕ → Bool
Again places p = (place_at places p).again

-- the first place of a variable, as a place of its own
pub first_is : (places : List Place) (v q : ℕ) → q < length places → T places q ≡ Var v → (first_from 0 places v ≤ q) × (T places (first_from 0 places v) ≡ Var v)
first_is places v q lt is =
    let f = first_found 0 places v q lt is in
    let e : first_from 0 places v ≡ f.0 = (let s : first_from 0 places v ≡ 0 + f.0 = f.1 in omega arith) in
    let le : f.0 ≤ q = f.2 in
    ((omega arith), subst (λ n. T places n ≡ Var v) (sym e) f.3)

module _ (tests : List Test) (places : List Place) where
  in_order : (p y : ℕ) → p < length places → is_first places p (T places p) ≡ true → IsIn y (with_tied places p) → IsIn y (stated_order tests places)
  in_order p y lt first k =
      elim (is_pinned tests (T places p)) as (λ b. is_pinned tests (T places p) ≡ b → IsIn y (stated_order tests places)) [
        | true ↦ λ e. IsIn-append_left y (originals tests places true) (originals tests places false) (among true e)
        | false ↦ λ e. IsIn-append_right y (originals tests places true) (originals tests places false) (among false e)
      ] refl
    where
      among : (b : Bool) → is_pinned tests (T places p) ≡ b → IsIn y (originals tests places b)
      among b e =
          IsIn-flat_map (with_tied places) p y (filter (is_original tests places b) (below (length places)))
          (IsIn-filter (is_original tests places b) p (below (length places)) (IsIn-below (length places) p lt) (and_from (is_first places p (T places p)) (is_as_pinned b (is_pinned tests (T places p))) first (ap (is_as_pinned b) e ∙ is_as_pinned_itself b)))
          k

  origin_in_at : (p : ℕ) (t : Term) (again : Bool) → p < length places → T places p ≡ t → Again places p ≡ again → IsIn (origin_of places p t again) (stated_order tests places)
  origin_in_at p (Cell c) again lt is told = in_order p p lt (ap (is_first places p) is) (inl refl)
  origin_in_at p (Var v) false lt is told =
      let f = first_is places v p lt is in
      let le : first_from 0 places v ≤ p = f.0 in
      in_order (first_from 0 places v) (first_from 0 places v) (omega arith) (ap (is_first places (first_from 0 places v)) f.1 ∙ eq-eqb _ _ refl) (inl refl)
  origin_in_at p (Var v) true lt is told =
      let f = first_is places v p lt is in
      let le : first_from 0 places v ≤ p = f.0 in
      let tied : is_tied_to (Var v) (place_at places p) ≡ true = and_from (Again places p) (is_var v (T places p)) told (ap (is_var v) is ∙ is_var_itself v) in
      in_order (first_from 0 places v) p (omega arith) (ap (is_first places (first_from 0 places v)) f.1 ∙ eq-eqb _ _ refl)
      (inr (IsIn-filter (λ q. is_tied_to (T places (first_from 0 places v)) (place_at places q)) p (below (length places)) (IsIn-below (length places) p lt) (ap (λ w. is_tied_to w (place_at places p)) f.1 ∙ tied)))

  -- the variable of each place has a level
  pub origin_in : (p : ℕ) → p < length places → IsIn (origin places p) (stated_order tests places)
  origin_in p lt = origin_in_at p (T places p) (Again places p) lt refl refl

  among_from : (b : Bool) (y : ℕ) → IsIn y (originals tests places b) → (p : ℕ) × (p < length places) × (is_first places p (T places p) ≡ true) × IsIn y (with_tied places p)
  among_from b y h =
      let f = IsIn-flat_map_from (with_tied places) y (filter (is_original tests places b) (below (length places))) h in
      let k = IsIn-filter_from (is_original tests places b) f.0 (below (length places)) f.1 in
      (f.0, IsIn-below_from (length places) f.0 k.0, (and_parts (is_first places f.0 (T places f.0)) (is_as_pinned b (is_pinned tests (T places f.0))) k.1).0, f.2)

  in_order_from : (y : ℕ) → IsIn y (stated_order tests places) → (p : ℕ) × (p < length places) × (is_first places p (T places p) ≡ true) × IsIn y (with_tied places p)
  in_order_from y h =
      elim (IsIn-append_cases y (originals tests places true) (originals tests places false) h) [ inl l ↦ among_from true y l | inr r ↦ among_from false y r ]

-- what is tied to a term
pub tied_is : (t : Term) (place : Place) → is_tied_to t place ≡ true → (v : ℕ) × (t ≡ Var v) × (place.again ≡ true) × (place.term ≡ Var v)
tied_is (Cell c) place h = absurd (cc)
tied_is (Var v) place h = let both = and_parts place.again (is_var v place.term) h in (v, refl, both.0, is_var-true v place.term both.1)

pub with_tied_from : (places : List Place) (p y : ℕ) → IsIn y (with_tied places p) → (p ≡ y) ⊎ ((y < length places) × (is_tied_to (T places p) (place_at places y) ≡ true))
with_tied_from places p y h =
    elim h [
      | inl e ↦ inl e
      | inr r ↦ let k = IsIn-filter_from (λ q. is_tied_to (T places p) (place_at places q)) y (below (length places)) r in inr (IsIn-below_from (length places) y k.0, k.1)
    ]

pub order_within : (tests : List Test) (places : List Place) (y : ℕ) → IsIn y (stated_order tests places) → y < length places
order_within tests places y h =
    let f = in_order_from tests places y h in
    let lt : f.0 < length places = f.1 in
    elim (with_tied_from places f.0 y f.3) [ inl e ↦ omega arith | inr k ↦ k.0 ]

first_itself : (places : List Place) (p : ℕ) (t : Term) (again : Bool) → is_first places p t ≡ true → origin_of places p t again ≡ p
first_itself places p (Cell c) again h = refl
first_itself places p (Var v) true h = refl
first_itself places p (Var v) false h = eqb-true (first_from 0 places v) p h

-- each place of the order is where its variable begins
pub order_itself : (tests : List Test) (places : List Place) (y : ℕ) → IsIn y (stated_order tests places) → origin places y ≡ y
order_itself tests places y h =
    let f = in_order_from tests places y h in
    elim (with_tied_from places f.0 y f.3) [
      | inl e ↦ subst (λ n. origin places n ≡ n) e (first_itself places f.0 (T places f.0) (Again places f.0) f.2)
      | inr k ↦ let t = tied_is (T places f.0) (place_at places y) k.1 in rw (t.2, t.3) refl
    ]

origin_term_at : (places : List Place) (p : ℕ) (t : Term) (again : Bool) → p < length places → T places p ≡ t → T places (origin_of places p t again) ≡ t
origin_term_at places p (Cell c) again lt is = is
origin_term_at places p (Var v) true lt is = is
origin_term_at places p (Var v) false lt is = (first_is places v p lt is).1

pub origin_term : (places : List Place) (p : ℕ) → p < length places → T places (origin places p) ≡ T places p
origin_term places p lt = origin_term_at places p (T places p) (Again places p) lt refl

origin_before_at : (places : List Place) (p : ℕ) (t : Term) (again : Bool) → p < length places → T places p ≡ t → origin_of places p t again ≤ p
origin_before_at places p (Cell c) again lt is = omega arith
origin_before_at places p (Var v) true lt is = omega arith
origin_before_at places p (Var v) false lt is = (first_is places v p lt is).0

pub origin_before : (places : List Place) (p : ℕ) → p < length places → origin places p ≤ p
origin_before places p lt = origin_before_at places p (T places p) (Again places p) lt refl

owner_first : (places : List Place) (p : ℕ) (t : Term) → is_first places p t ≡ true → original_of places p t ≡ p
owner_first places p (Cell c) h = refl
owner_first places p (Var v) h = eqb-true (first_from 0 places v) p h

pub owned : (places : List Place) (p y : ℕ) → is_first places p (T places p) ≡ true → IsIn y (with_tied places p) → original_of places y (T places y) ≡ p
owned places p y first h =
    elim (with_tied_from places p y h) [
      | inl e ↦ subst (λ n. original_of places n (T places n) ≡ p) e (owner_first places p (T places p) first)
      | inr k ↦
          let t = tied_is (T places p) (place_at places y) k.1 in
          let at : is_first places p (Var t.0) ≡ true = subst (λ w. is_first places p w ≡ true) t.1 first in
          ap (original_of places y) t.3 ∙ eqb-true (first_from 0 places t.0) p at
    ]

-- an original is no tied variable
each_distinct : (places : List Place) → IsTold places → (p : ℕ) → p < length places → is_first places p (T places p) ≡ true → IsDistinct (with_tied places p)
each_distinct places told p lt first = (
  λ h.
      let k = IsIn-filter_from (λ q. is_tied_to (T places p) (place_at places q)) p (below (length places)) h in
      let t = tied_is (T places p) (place_at places p) k.1 in
      let w = told p lt t.2 in
      let earlier = w.2 in
      let before : earlier.0 < p = earlier.1 in
      let f = first_is places w.0 earlier.0 (omega arith) earlier.2 in
      let le : first_from 0 places w.0 ≤ earlier.0 = f.0 in
      let at : first_from 0 places w.0 ≡ p = eqb-true (first_from 0 places w.0) p (subst (λ u. is_first places p u ≡ true) w.1 first) in
      omega arith,
  IsDistinct-filter (λ q. is_tied_to (T places p) (place_at places q)) (below (length places)) (IsDistinct-below (length places)),
)

abbrev pub chosen_of : List Test → List Place → Bool → List ℕ
chosen_of tests places b = filter (is_original tests places b) (below (length places))

-- the stated order has no place twice
pub IsDistinct-order : (tests : List Test) (places : List Place) → IsTold places → IsDistinct (stated_order tests places)
IsDistinct-order tests places told =
    subst IsDistinct (flat_map-append (with_tied places) (chosen_of tests places true) (chosen_of tests places false))
    (IsDistinct-flat_map (with_tied places) (λ y. original_of places y (T places y)) (chosen_of tests places true ++ chosen_of tests places false) distinct (λ p h. let f = in_either p h in each_distinct places told p f.0 f.1) (λ p y h k. owned places p y (in_either p h).1 k))
  where
    in_chosen : (b : Bool) (p : ℕ) → IsIn p (chosen_of tests places b) → (p < length places) × (is_first places p (T places p) ≡ true) × (is_as_pinned b (is_pinned tests (T places p)) ≡ true)
    in_chosen b p h =
        let k = IsIn-filter_from (is_original tests places b) p (below (length places)) h in
        let both = and_parts (is_first places p (T places p)) (is_as_pinned b (is_pinned tests (T places p))) k.1 in
        (IsIn-below_from (length places) p k.0, both.0, both.1)

    in_either : (p : ℕ) → IsIn p (chosen_of tests places true ++ chosen_of tests places false) → (p < length places) × (is_first places p (T places p) ≡ true)
    in_either p h =
        elim (IsIn-append_cases p (chosen_of tests places true) (chosen_of tests places false) h) [ inl l ↦ let f = in_chosen true p l in (f.0, f.1) | inr r ↦ let f = in_chosen false p r in (f.0, f.1) ]

    distinct : IsDistinct (chosen_of tests places true ++ chosen_of tests places false)
    distinct =
        IsDistinct-append (chosen_of tests places true) (chosen_of tests places false) (IsDistinct-filter (is_original tests places true) (below (length places)) (IsDistinct-below (length places))) (IsDistinct-filter (is_original tests places false) (below (length places)) (IsDistinct-below (length places)))
        (λ p h k. is_as_pinned_apart (is_pinned tests (T places p)) (in_chosen true p h).2 (in_chosen false p k).2)
