-- Numbers put in order, each once.
use Rattle.std.proofs.Common.{◌≡◌, ℕ, ◌<◌, List, [], ◌∷◌, refl, sym, ap, ◌∙◌, inl, inr, subst, arith}
use Rattle.std.specs.Prelude.{◌⊎◌}
use Rattle.std.specs.List.{AllByRecursion}
use Rattle.std.specs.Ordering.{nat_cmp}
use Rattle.std.specs.Cmp.{nat_cmp_is}
use Rattle.std.specs.declared.cmp.Ordering.TheVariants.{Less, Equal, Greater}
use Rattle.std.proofs.lemmas.Bool.{cases_order}
use Rattle.lt_face.specs.Lists.{IsIn}
use Rattle.lt_face.specs.Rows.{by_order}
use Rattle.lt_face.proofs.RowLemmas.{each_weaker}
use Rattle.lt_query.specs.Lists.{IsRising}
use Rattle.lt_query.proofs.Elements.{All_at}
use Rattle.lt_restate.specs.Changes.{with_number, sorted_numbers}

by_cases : (P : List ℕ → Type 0) (k l : ℕ) (a b c : List ℕ) → (k < l → P a) → (k ≡ l → P b) → (l < k → P c) → P (by_order (nat_cmp k l) a b c)
by_cases P k l a b c less same more = elim (cases_order k l) [
  | inl e ↦ subst (λ o. P (by_order o a b c)) (nat_cmp_is k l Equal e) (same e)
  | inr r ↦ elim r [
    | inl lt ↦ subst (λ o. P (by_order o a b c)) (nat_cmp_is k l Less lt) (less lt)
    | inr gt ↦ subst (λ o. P (by_order o a b c)) (nat_cmp_is k l Greater gt) (more gt)
  ]
]

has_new : (k : ℕ) (ks : List ℕ) → IsIn k (with_number k ks)
has_new k [] = inl refl
has_new k (l ∷ ls) = by_cases (IsIn k) k l (k ∷ (l ∷ ls)) (l ∷ ls) (l ∷ with_number k ls) (λ lt. inl refl) (λ e. inl (sym e)) (λ gt. inr (has_new k ls))

has_old : (k x : ℕ) (ks : List ℕ) → IsIn x ks → IsIn x (with_number k ks)
has_old k x [] h = absurd h
has_old k x (l ∷ ls) h = by_cases (IsIn x) k l (k ∷ (l ∷ ls)) (l ∷ ls) (l ∷ with_number k ls) (λ lt. inr h) (λ e. h) (λ gt. elim h [ inl e ↦ inl e | inr r ↦ inr (has_old k x ls r) ])

has_from : (k x : ℕ) (ks : List ℕ) → IsIn x (with_number k ks) → (k ≡ x) ⊎ IsIn x ks
has_from k x [] = λ h. elim h [ inl e ↦ inl e | inr r ↦ absurd r ]
has_from k x (l ∷ ls) =
    by_cases (λ zs. IsIn x zs → (k ≡ x) ⊎ IsIn x (l ∷ ls)) k l (k ∷ (l ∷ ls)) (l ∷ ls) (l ∷ with_number k ls) (λ lt h. elim h [ inl e ↦ inl e | inr r ↦ inr r ]) (λ e h. inr h)
    (λ gt h. elim h [ inl e ↦ inr (inl e) | inr r ↦ elim (has_from k x ls r) [ inl e ↦ inl e | inr q ↦ inr (inr q) ] ])

all_above : (l k : ℕ) (ls : List ℕ) → l < k → AllByRecursion (λ y. l < y) ls → AllByRecursion (λ y. l < y) (with_number k ls)
all_above l k [] lt h = (lt, tt)
all_above l k (m ∷ ls) lt h =
    by_cases (AllByRecursion (λ y. l < y)) k m (k ∷ (m ∷ ls)) (m ∷ ls) (m ∷ with_number k ls) (λ less. (lt, h)) (λ same. h) (λ more. (h.0, all_above l k ls lt h.1))

rises_with : (k : ℕ) (ks : List ℕ) → IsRising ks → IsRising (with_number k ks)
rises_with k [] h = (tt, tt)
rises_with k (l ∷ ls) h =
    by_cases IsRising k l (k ∷ (l ∷ ls)) (l ∷ ls) (l ∷ with_number k ls) (λ lt. ((lt, each_weaker (λ y. l < y) (λ y. k < y) (λ y b. omega arith) ls h.0), h)) (λ e. h)
    (λ gt. (all_above l k ls gt h.0, rises_with k ls h.1))

pub order_rises : (ks : List ℕ) → IsRising (sorted_numbers ks)
order_rises [] = tt
order_rises (k ∷ ks) = rises_with k (sorted_numbers ks) (order_rises ks)

pub order_has : (x : ℕ) (ks : List ℕ) → IsIn x ks → IsIn x (sorted_numbers ks)
order_has x [] h = absurd h
order_has x (k ∷ ks) h = elim h [ inl e ↦ subst (λ y. IsIn y (with_number k (sorted_numbers ks))) e (has_new k (sorted_numbers ks)) | inr r ↦ has_old k x (sorted_numbers ks) (order_has x ks r) ]

pub order_from : (x : ℕ) (ks : List ℕ) → IsIn x (sorted_numbers ks) → IsIn x ks
order_from x [] h = absurd h
order_from x (k ∷ ks) h = elim (has_from k x (sorted_numbers ks) h) [ inl e ↦ inl e | inr r ↦ inr (order_from x ks r) ]

-- two ascending lists that have the same numbers are one
pub same_rising : (xs ys : List ℕ) → IsRising xs → IsRising ys → ((k : ℕ) → IsIn k xs → IsIn k ys) → ((k : ℕ) → IsIn k ys → IsIn k xs) → xs ≡ ys
same_rising [] [] up vp forth back = refl
same_rising [] (y ∷ ys) up vp forth back = absurd (back y (inl refl))
same_rising (x ∷ xs) [] up vp forth back = absurd (forth x (inl refl))
same_rising (x ∷ xs) (y ∷ ys) up vp forth back = ap (λ (z : ℕ). z ∷ xs) one ∙ ap (λ (zs : List ℕ). y ∷ zs) (same_rising xs ys up.1 vp.1 onward backward)
  where
    one : x ≡ y
    one = elim (forth x (inl refl)) [
      | inl e ↦ sym e
      | inr r ↦ elim (back y (inl refl)) [
        | inl e ↦ e
        | inr q ↦ (let a = All_at (λ z. y < z) x ys vp.0 r in let b = All_at (λ z. x < z) y xs up.0 q in absurd (omega arith))
      ]
    ]

    onward : (k : ℕ) → IsIn k xs → IsIn k ys
    onward k h = elim (forth k (inr h)) [
      | inl e ↦ (let b = All_at (λ z. x < z) k xs up.0 h in absurd (omega (arith, b, e, one)))
      | inr r ↦ r
    ]

    backward : (k : ℕ) → IsIn k ys → IsIn k xs
    backward k h = elim (back k (inr h)) [
      | inl e ↦ (let b = All_at (λ z. y < z) k ys vp.0 h in absurd (omega (arith, b, e, one)))
      | inr r ↦ r
    ]
