-- The stated order is the one that the rules of precedence give.
use Rattle.std.specs.Prelude.{◌≡◌, ℕ, zero, suc, ◌<◌, ◌≤◌, Bool, true, false, List, [], ◌∷◌, ◌++◌, length, filter}
use Rattle.std.specs.List.{flat_map}
use Rattle.std.proofs.Common.{refl, sym, ap, ◌∙◌, subst, inl, inr, cond, arith}
use Rattle.std.proofs.lemmas.Bool.{and_parts, eqb-true, true≢false}
use Rattle.lt_model.specs.declared.normal.Term.TheVariants.{Var}
use Rattle.lt_model.specs.declared.normal.Test.{Test}
use Rattle.lt_query.specs.declared.places.Place.{Place}
use Rattle.lt_face.specs.Lists.{IsIn, AreInOrder}
use Rattle.lt_query.specs.Order.{place_at, first_from, original, is_pinned, is_pinned_at, is_as_pinned, is_first, is_original, is_tied_to, with_tied, originals, stated_order, Precedes, IsStatedOrder}
use Rattle.lt_query.specs.Lists.{below}
use Rattle.lt_face.proofs.Membership.{IsIn-append_cases, IsIn-flat_map_from}
use Rattle.lt_query.proofs.Elements.{All_from, All_at}
use Rattle.lt_query.proofs.Distinct.{IsIn-filter_from, IsIn-below_from}
use Rattle.lt_query.proofs.Text.{IsTold, told}
use Rattle.lt_query.proofs.Origins.{T, first_is, tied_is, with_tied_from, owned, chosen_of, origin_in, order_within, order_itself}

ordered-append : (R : ℕ → ℕ → Type 0) (xs ys : List ℕ) → AreInOrder R xs → AreInOrder R ys → ((x y : ℕ) → IsIn x xs → IsIn y ys → R x y) → AreInOrder R (xs ++ ys)
ordered-append R [] ys a b h = b
ordered-append R (x ∷ xs) ys a b h = (
  All_from (R x) (xs ++ ys) (λ y k. elim (IsIn-append_cases y xs ys k) [ inl l ↦ All_at (R x) y xs a.0 l | inr r ↦ h x y (inl refl) r ]),
  ordered-append R xs ys a.1 b (λ z y l r. h z y (inr l) r),
)

pub ordered-below : (n : ℕ) → AreInOrder (λ x y. x < y) (below n)
ordered-below zero = tt
ordered-below (suc n) =
    ordered-append (λ x y. x < y) (below n) (n ∷ []) (ordered-below n) (tt, tt)
    (λ x y h k. elim k [ inl e ↦ let lt = IsIn-below_from n x h in omega arith | inr r ↦ absurd r ])

pub ordered-filter : (R : ℕ → ℕ → Type 0) (p : ℕ → Bool) (xs : List ℕ) → AreInOrder R xs → AreInOrder R (filter p xs)
ordered-filter R p [] h = tt
ordered-filter R p (x ∷ xs) h =
    elim (p x) as (λ b. AreInOrder R (cond b (x ∷ filter p xs) (filter p xs))) [
      | true ↦ (All_from (R x) (filter p xs) (λ y k. All_at (R x) y xs h.0 (IsIn-filter_from p y xs k).0), ordered-filter R p xs h.1)
      | false ↦ ordered-filter R p xs h.1
    ]

ordered-weaker : (R S : ℕ → ℕ → Type 0) (xs : List ℕ) → ((x y : ℕ) → IsIn x xs → IsIn y xs → R x y → S x y) → AreInOrder R xs → AreInOrder S xs
ordered-weaker R S [] f h = tt
ordered-weaker R S (x ∷ xs) f h = (All_from (S x) xs (λ y k. f x y (inl refl) (inr k) (All_at (R x) y xs h.0 k)), ordered-weaker R S xs (λ y z k l. f y z (inr k) (inr l)) h.1)

ordered-flat_map : (R S : ℕ → ℕ → Type 0) (f : ℕ → List ℕ) (xs : List ℕ) → AreInOrder R xs → ((x : ℕ) → IsIn x xs → AreInOrder S (f x)) → ((x y a b : ℕ) → IsIn x xs → IsIn y xs → R x y → IsIn a (f x) → IsIn b (f y) → S a b) → AreInOrder S (flat_map f xs)
ordered-flat_map R S f [] o each between = tt
ordered-flat_map R S f (x ∷ xs) o each between =
    ordered-append S (f x) (flat_map f xs) (each x (inl refl)) (ordered-flat_map R S f xs o.1 (λ y k. each y (inr k)) (λ y z a b k l. between y z a b (inr k) (inr l)))
    (λ a b h k. let q = IsIn-flat_map_from f b xs k in between x q.0 a b (inl refl) (inr q.1) (All_at (R x) q.0 xs o.0 q.1) h q.2)

-- a tied variable is pinned where its original is
pinned_alike : (tests : List Test) (places : List Place) (p y : ℕ) → IsIn y (with_tied places p) → is_pinned_at tests places y ≡ is_pinned_at tests places p
pinned_alike tests places p y h =
    elim (with_tied_from places p y h) [
      | inl e ↦ ap (is_pinned_at tests places) (sym e)
      | inr k ↦ let t = tied_is (T places p) (place_at places y) k.1 in ap (is_pinned tests) (t.3 ∙ sym t.1)
    ]

as_pinned : (b is : Bool) → is_as_pinned b is ≡ true → is ≡ b
as_pinned true is h = h
as_pinned false true h = absurd (true≢false (sym h))
as_pinned false false h = refl

in_chosen : (tests : List Test) (places : List Place) (b : Bool) (p : ℕ) → IsIn p (chosen_of tests places b) → (p < length places) × (is_first places p (T places p) ≡ true) × (is_pinned_at tests places p ≡ b)
in_chosen tests places b p h =
    let k = IsIn-filter_from (is_original tests places b) p (below (length places)) h in
    let both = and_parts (is_first places p (T places p)) (is_as_pinned b (is_pinned tests (T places p))) k.1 in
    (IsIn-below_from (length places) p k.0, both.0, as_pinned b (is_pinned tests (T places p)) both.1)

-- a tied place is past its original
tied_after : (places : List Place) → IsTold places → (p y : ℕ) → is_first places p (T places p) ≡ true → y < length places → is_tied_to (T places p) (place_at places y) ≡ true → p < y
tied_after places told p y first lt tied =
    let t = tied_is (T places p) (place_at places y) tied in
    let w = told y lt t.2 in
    let earlier = w.2 in
    let before : earlier.0 < y = earlier.1 in
    let same : Var w.0 ≡ Var t.0 = sym w.1 ∙ t.3 in
    let f = first_is places t.0 earlier.0 (omega arith) (earlier.2 ∙ same) in
    let le : first_from 0 places t.0 ≤ earlier.0 = f.0 in
    let at : first_from 0 places t.0 ≡ p = eqb-true (first_from 0 places t.0) p (subst (λ u. is_first places p u ≡ true) t.1 first) in
    omega arith

module _ (tests : List Test) (places : List Place) (told : IsTold places) where
  ordered_with_tied : (p : ℕ) → is_first places p (T places p) ≡ true → AreInOrder (Precedes tests places) (with_tied places p)
  ordered_with_tied p first = (
    All_from (Precedes tests places p) tied (λ y h. let k = IsIn-filter_from (λ q. is_tied_to (T places p) (place_at places q)) y (below (length places)) h in
        inr (sym (pinned_alike tests places p y (inr h)), inr (owned places p p first (inl refl) ∙ sym (owned places p y first (inr h)), tied_after places told p y first (IsIn-below_from (length places) y k.0) k.1))),
    ordered-weaker (λ x y. x < y) (Precedes tests places) tied
        (λ x y h k lt. inr (pinned_alike tests places p x (inr h) ∙ sym (pinned_alike tests places p y (inr k)), inr (owned places p x first (inr h) ∙ sym (owned places p y first (inr k)), lt)))
        (ordered-filter (λ x y. x < y) (λ q. is_tied_to (T places p) (place_at places q)) (below (length places)) (ordered-below (length places))),
  )
    where
      tied : List ℕ
      tied = filter (λ q. is_tied_to (T places p) (place_at places q)) (below (length places))

  ordered_originals : (b : Bool) → AreInOrder (Precedes tests places) (originals tests places b)
  ordered_originals b =
      ordered-flat_map (λ x y. x < y) (Precedes tests places) (with_tied places) (chosen_of tests places b)
      (ordered-filter (λ x y. x < y) (is_original tests places b) (below (length places)) (ordered-below (length places)))
      (λ p h. ordered_with_tied p (in_chosen tests places b p h).1)
      (λ p q x y h k lt i j.
      let f = in_chosen tests places b p h in
      let g = in_chosen tests places b q k in
      let ep : original places x ≡ p = owned places p x f.1 i in
      let eq : original places y ≡ q = owned places q y g.1 j in
      inr (pinned_alike tests places p x i ∙ (f.2 ∙ (sym g.2 ∙ sym (pinned_alike tests places q y j))), inl (omega arith)))

  pinned_among : (b : Bool) (y : ℕ) → IsIn y (originals tests places b) → is_pinned_at tests places y ≡ b
  pinned_among b y h =
      let f = IsIn-flat_map_from (with_tied places) y (chosen_of tests places b) h in
      pinned_alike tests places f.0 y f.2 ∙ (in_chosen tests places b f.0 f.1).2

  pub IsStatedOrder-stated : IsStatedOrder tests places (stated_order tests places)
  IsStatedOrder-stated = record {
    begins = λ p h. (order_within tests places p h, order_itself tests places p h);
    each = λ p lt own. subst (λ q. IsIn q (stated_order tests places)) own (origin_in tests places p lt);
    ordered = ordered-append (Precedes tests places) (originals tests places true) (originals tests places false) (ordered_originals true) (ordered_originals false) (λ x y h k. inl (pinned_among true x h, pinned_among false y k));
  }

-- the rules of precedence leave one order

precedes_apart : (tests : List Test) (places : List Place) (x y : ℕ) → Precedes tests places x y → Precedes tests places y x → ⊥
precedes_apart tests places x y h k =
    elim h [
      | inl a ↦ elim k [ inl b ↦ true≢false (sym a.0 ∙ b.1) | inr b ↦ true≢false (sym a.0 ∙ (sym b.0 ∙ a.1)) ]
      | inr a ↦ elim k [
        | inl b ↦ true≢false (sym b.0 ∙ (sym a.0 ∙ b.1))
        | inr b ↦ elim a.1 [
          | inl lt ↦ elim b.1 [ inl gt ↦ omega arith | inr same ↦ let e : original places y ≡ original places x = same.0 in omega arith ]
          | inr same ↦ let e : original places x ≡ original places y = same.0 in let lt : x < y = same.1 in elim b.1 [ inl gt ↦ omega arith | inr other ↦ let gt : y < x = other.1 in omega arith ]
        ]
      ]
    ]

pub one_order : (R : ℕ → ℕ → Type 0) → ((x y : ℕ) → R x y → R y x → ⊥) → (xs ys : List ℕ) → AreInOrder R xs → AreInOrder R ys → ((x : ℕ) → IsIn x xs → IsIn x ys) → ((x : ℕ) → IsIn x ys → IsIn x xs) → xs ≡ ys
one_order R apart [] [] a b f g = refl
one_order R apart [] (y ∷ ys) a b f g = absurd (g y (inl refl))
one_order R apart (x ∷ xs) [] a b f g = absurd (f x (inl refl))
one_order R apart (x ∷ xs) (y ∷ ys) a b f g =
    let same : x ≡ y =
    elim (f x (inl refl)) [
      | inl e ↦ sym e
      | inr later ↦ elim (g y (inl refl)) [ inl e ↦ e | inr sooner ↦ absurd (apart x y (All_at (R x) y xs a.0 sooner) (All_at (R y) x ys b.0 later)) ]
    ] in
    let rest : xs ≡ ys =
    one_order R apart xs ys a.1 b.1
    (λ z h. elim (f z (inr h)) [ inl e ↦ let r : R x x = subst (R x) (sym (same ∙ e)) (All_at (R x) z xs a.0 h) in absurd (apart x x r r) | inr k ↦ k ])
    (λ z h. elim (g z (inr h)) [ inl e ↦ let r : R y y = subst (R y) (sym (sym same ∙ e)) (All_at (R y) z ys b.0 h) in absurd (apart y y r r) | inr k ↦ k ]) in
    cc

pub one_stated_order : (tests : List Test) (places : List Place) (order other : List ℕ) → IsStatedOrder tests places order → IsStatedOrder tests places other → order ≡ other
one_stated_order tests places order other a b =
    one_order (Precedes tests places) (precedes_apart tests places) order other a.ordered b.ordered
    (λ x h. let f = a.begins x h in b.each x f.0 f.1)
    (λ x h. let f = b.begins x h in a.each x f.0 f.1)
