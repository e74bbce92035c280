-- Lists without repeats, and where their elements stand.
use Rattle.std.specs.Prelude.{◌≡◌, ℕ, zero, suc, ◌+◌, ◌<◌, Bool, true, false, ◌==◌, List, [], ◌∷◌, ◌++◌, length, filter}
use Rattle.std.specs.List.{flat_map}
use Rattle.std.proofs.Common.{refl, sym, ◌∙◌, subst, inl, inr, cond, arith, get_or, length-append}
use Rattle.std.proofs.lemmas.Bool.{eqb-true, eqb-false, eq-eqb}
use Rattle.lt_face.specs.Lists.{IsIn}
use Rattle.lt_query.specs.Lists.{IsDistinct}
use Rattle.lt_query.specs.Lists.{below}
use Rattle.lt_query.specs.Stated.{index_from}
use Rattle.lt_face.proofs.Membership.{IsIn-append_left, IsIn-append_right, IsIn-append_cases, IsIn-flat_map_from}

pub IsIn-filter : {X : Type 0} (p : X → Bool) (x : X) (xs : List X) → IsIn x xs → p x ≡ true → IsIn x (filter p xs)
IsIn-filter p x [] h e = absurd h
IsIn-filter p x (y ∷ xs) h e =
    elim (p y) as (λ b. p y ≡ b → IsIn x (cond b (y ∷ filter p xs) (filter p xs))) [
      | true ↦ λ yes. elim h [ inl q ↦ inl q | inr r ↦ inr (IsIn-filter p x xs r e) ]
      | false ↦ λ no. elim h [ inl q ↦ let bad : p x ≡ false = subst (λ w. p w ≡ false) q no in absurd (cc) | inr r ↦ IsIn-filter p x xs r e ]
    ] refl

pub IsIn-filter_from : {X : Type 0} (p : X → Bool) (x : X) (xs : List X) → IsIn x (filter p xs) → IsIn x xs × (p x ≡ true)
IsIn-filter_from p x [] h = absurd h
IsIn-filter_from p x (y ∷ xs) h =
    elim (p y) as (λ b. p y ≡ b → IsIn x (cond b (y ∷ filter p xs) (filter p xs)) → IsIn x (y ∷ xs) × (p x ≡ true)) [
      | true ↦ λ e k. elim k [ inl q ↦ (inl q, subst (λ z. p z ≡ true) q e) | inr r ↦ let f = IsIn-filter_from p x xs r in (inr f.0, f.1) ]
      | false ↦ λ e k. let f = IsIn-filter_from p x xs k in (inr f.0, f.1)
    ] refl h

pub IsIn-below : (n x : ℕ) → x < n → IsIn x (below n)
IsIn-below zero x h = absurd (omega arith)
IsIn-below (suc n) x h =
    elim (x == n) as (λ b. (x == n) ≡ b → IsIn x (below n ++ n ∷ [])) [
      | true ↦ λ e. IsIn-append_right x (below n) (n ∷ []) (inl (sym (eqb-true x n e)))
      | false ↦ λ e. IsIn-append_left x (below n) (n ∷ []) (IsIn-below n x (let ne = eqb-false x n e in omega arith))
    ] refl

pub IsIn-below_from : (n x : ℕ) → IsIn x (below n) → x < n
IsIn-below_from zero x h = absurd h
IsIn-below_from (suc n) x h =
    elim (IsIn-append_cases x (below n) (n ∷ []) h) [
      | inl l ↦ let lt = IsIn-below_from n x l in omega arith
      | inr r ↦ elim r [ inl e ↦ omega arith | inr k ↦ absurd k ]
    ]

-- an append of two lists that share nothing
pub IsDistinct-append : {X : Type 0} (xs ys : List X) → IsDistinct xs → IsDistinct ys → ((x : X) → IsIn x xs → IsIn x ys → ⊥) → IsDistinct (xs ++ ys)
IsDistinct-append [] ys a b apart = b
IsDistinct-append (x ∷ xs) ys a b apart = (
  λ h. elim (IsIn-append_cases x xs ys h) [ inl l ↦ a.0 l | inr r ↦ apart x (inl refl) r ],
  IsDistinct-append xs ys a.1 b (λ y h k. apart y (inr h) k),
)

pub IsDistinct-filter : {X : Type 0} (p : X → Bool) (xs : List X) → IsDistinct xs → IsDistinct (filter p xs)
IsDistinct-filter p [] h = tt
IsDistinct-filter p (x ∷ xs) h =
    elim (p x) as (λ b. IsDistinct (cond b (x ∷ filter p xs) (filter p xs))) [
      | true ↦ ((λ k. h.0 (IsIn-filter_from p x xs k).0), IsDistinct-filter p xs h.1)
      | false ↦ IsDistinct-filter p xs h.1
    ]

pub IsDistinct-below : (n : ℕ) → IsDistinct (below n)
IsDistinct-below zero = tt
IsDistinct-below (suc n) =
    IsDistinct-append (below n) (n ∷ []) (IsDistinct-below n) ((λ h. h), tt)
    (λ x h k. elim k [ inl e ↦ let lt = IsIn-below_from n x h in omega arith | inr r ↦ absurd r ])

-- each element tells the one that it was made from
pub IsDistinct-flat_map : (f : ℕ → List ℕ) (owner : ℕ → ℕ) (xs : List ℕ) → IsDistinct xs → ((x : ℕ) → IsIn x xs → IsDistinct (f x)) → ((x y : ℕ) → IsIn x xs → IsIn y (f x) → owner y ≡ x) → IsDistinct (flat_map f xs)
IsDistinct-flat_map f owner [] d each owned = tt
IsDistinct-flat_map f owner (x ∷ xs) d each owned =
    IsDistinct-append (f x) (flat_map f xs) (each x (inl refl)) (IsDistinct-flat_map f owner xs d.1 (λ z h. each z (inr h)) (λ z y h k. owned z y (inr h) k))
    (λ y h k. let q = IsIn-flat_map_from f y xs k in let one = owned x y (inl refl) h in let other = owned q.0 y (inr q.1) q.2 in d.0 (subst (λ w. IsIn w xs) (sym other ∙ one) q.1))

pub index-within : (l : ℕ) (xs : List ℕ) (x : ℕ) → IsIn x xs → index_from l xs x < l + length xs
index-within l [] x h = absurd h
index-within l (y ∷ xs) x h =
    elim (y == x) as (λ b. (y == x) ≡ b → cond b l (index_from (l + 1) xs x) < l + suc (length xs)) [
      | true ↦ λ e. omega arith
      | false ↦ λ e. elim h [ inl q ↦ absurd ((eqb-false y x e) q) | inr r ↦ let lt = index-within (l + 1) xs x r in omega arith ]
    ] refl

pub get_or-index : (l : ℕ) (xs : List ℕ) (x : ℕ) → IsIn x xs → (i : ℕ) × (index_from l xs x ≡ l + i) × (i < length xs) × (get_or xs i 0 ≡ x)
get_or-index l [] x h = absurd h
get_or-index l (y ∷ xs) x h =
    elim (y == x) as (λ b. (y == x) ≡ b → (i : ℕ) × (cond b l (index_from (l + 1) xs x) ≡ l + i) × (i < suc (length xs)) × (get_or (y ∷ xs) i 0 ≡ x)) [
      | true ↦ λ e. (0, (let s : l ≡ l + 0 = omega arith in s), (omega arith), eqb-true y x e)
      | false ↦ λ e. elim h [
        | inl q ↦ absurd ((eqb-false y x e) q)
        | inr r ↦ let f = get_or-index (l + 1) xs x r in (suc f.0, (let s : index_from (l + 1) xs x ≡ (l + 1) + f.0 = f.1 in omega arith), (let s : f.0 < length xs = f.2 in omega arith), f.3)
      ]
    ] refl

pub IsIn-get_or : (xs : List ℕ) (i : ℕ) → i < length xs → IsIn (get_or xs i 0) xs
IsIn-get_or [] i h = absurd (omega arith)
IsIn-get_or (x ∷ xs) zero h = inl refl
IsIn-get_or (x ∷ xs) (suc i) h = inr (IsIn-get_or xs i (omega arith))

pub index-get_or : (l : ℕ) (xs : List ℕ) (i : ℕ) → IsDistinct xs → i < length xs → index_from l xs (get_or xs i 0) ≡ l + i
index-get_or l [] i d h = absurd (omega arith)
index-get_or l (y ∷ xs) zero d h = rw (eq-eqb y y refl) (omega arith)
index-get_or l (y ∷ xs) (suc i) d h =
    elim (y == get_or xs i 0) as (λ b. (y == get_or xs i 0) ≡ b → cond b l (index_from (l + 1) xs (get_or xs i 0)) ≡ l + suc i) [
      | true ↦ λ e. absurd (d.0 (subst (λ w. IsIn w xs) (sym (eqb-true y (get_or xs i 0) e)) (IsIn-get_or xs i (omega arith))))
      | false ↦ λ e. let s = index-get_or (l + 1) xs i d.1 (omega arith) in omega arith
    ] refl

pub length-below : (n : ℕ) → length (below n) ≡ n
length-below zero = refl
length-below (suc n) = let e = length-append (below n) (n ∷ []) in let f = length-below n in omega arith
