-- The first row from a bound on, and the rows around it.
use Rattle.std.proofs.Common.{◌≡◌, ℕ, zero, suc, ◌<◌, ◌≤◌, Bool, true, false, not, length, take, drop, List, [], ◌∷◌, ◌++◌, Some, None, refl, sym, ap, ◌∙◌, subst, arith, slice_index, cond, nat_lt, inl, inr, take-append-drop, append_assoc}
use Rattle.std.specs.Prelude.{⊤}
use mathlib.Core.Bool.{true≢false}
use Rattle.std.specs.List.{AllByRecursion}
use Rattle.std.specs.declared.cmp.Ordering.{Ordering}
use Rattle.std.specs.declared.cmp.Ordering.TheVariants.{Less, Equal, Greater}
use Rattle.std.specs.Ordering.{is_lt}
use Rattle.std.proofs.lemmas.Bool.{cases_eq}
use Rattle.std.proofs.lemmas.Bool.Decides.{nat_tests}
use Rattle.lt_face.specs.Rows.{row_cmp, IsAscending, first_from}
use Rattle.lt_face.proofs.RowLemmas.{rows_total, cmp_itself, each_weaker}
use Rattle.lt_trie.specs.Under.{next_cell}
use Rattle.lt_trie.specs.Stand.{IsUnder}
use Rattle.lt_trie.proofs.Cells.{cmp_equal, cmp_less, lt-next_cell, none_after}

-- ---- lists

pub each_left : {X : Type 0} (P : X → Type 0) (xs ys : List X) → AllByRecursion P (xs ++ ys) → AllByRecursion P xs
each_left P [] ys h = tt
each_left P (x ∷ xs) ys h = (h.0, each_left P xs ys h.1)

pub each_right : {X : Type 0} (P : X → Type 0) (xs ys : List X) → AllByRecursion P (xs ++ ys) → AllByRecursion P ys
each_right P [] ys h = h
each_right P (x ∷ xs) ys h = each_right P xs ys h.1

pub each_both : {X : Type 0} (P : X → Type 0) (xs ys : List X) → AllByRecursion P xs → AllByRecursion P ys → AllByRecursion P (xs ++ ys)
each_both P [] ys h k = k
each_both P (x ∷ xs) ys h k = (h.0, each_both P xs ys h.1 k)

pub each_take : {X : Type 0} (P : X → Type 0) (n : ℕ) (xs : List X) → AllByRecursion P xs → AllByRecursion P (take n xs)
each_take P zero xs h = tt
each_take P (suc n) [] h = tt
each_take P (suc n) (x ∷ xs) h = (h.0, each_take P n xs h.1)

pub each_drop : {X : Type 0} (P : X → Type 0) (n : ℕ) (xs : List X) → AllByRecursion P xs → AllByRecursion P (drop n xs)
each_drop P zero xs h = h
each_drop P (suc n) [] h = tt
each_drop P (suc n) (x ∷ xs) h = each_drop P n xs h.1

pub ascending_right : (xs ys : List (List ℕ)) → IsAscending (xs ++ ys) → IsAscending ys
ascending_right [] ys up = up
ascending_right (x ∷ xs) ys up = ascending_right xs ys up.1

pub ascending_left : (xs ys : List (List ℕ)) → IsAscending (xs ++ ys) → IsAscending xs
ascending_left [] ys up = tt
ascending_left (x ∷ xs) ys up = (each_left (λ s. row_cmp x s ≡ Less) xs ys up.0, ascending_left xs ys up.1)

pub cut_again : (xs ys : List (List ℕ)) (n : ℕ) → xs ++ ys ≡ take n xs ++ (drop n xs ++ ys)
cut_again xs ys n = ap (λ t. t ++ ys) (sym (take-append-drop n xs)) ∙ append_assoc (take n xs) (drop n xs) ys

-- ---- the order of rows

pub is_less : (o : Ordering) → is_lt o ≡ true → o ≡ Less
is_less Less h = refl
is_less Equal h = absurd (true≢false (sym h))
is_less Greater h = absurd (true≢false (sym h))

-- a row is below those that it begins
pub begins_below : (q : List ℕ) (x : ℕ) → row_cmp q (q ++ x ∷ []) ≡ Less
begins_below [] x = refl
begins_below (y ∷ q) x = rw (cmp_equal y) (begins_below q x)

pub bound_below : (p : List ℕ) (b c : ℕ) → b < c → row_cmp (p ++ b ∷ []) (p ++ c ∷ []) ≡ Less
bound_below [] b c lt = rw (cmp_less b c lt) refl
bound_below (q ∷ ps) b c lt = rw (cmp_equal q) (bound_below ps b c lt)

-- a row below one bound is below a greater one
pub below_more : (p r : List ℕ) (b c : ℕ) → b ≤ c → row_cmp r (p ++ b ∷ []) ≡ Less → row_cmp r (p ++ c ∷ []) ≡ Less
below_more p r b c le h =
    elim (cases_eq b c) [
      | inl same ↦ subst (λ n. row_cmp r (p ++ n ∷ []) ≡ Less) same h
      | inr other ↦ rows_total.trans r (p ++ b ∷ []) (p ++ c ∷ []) h (bound_below p b c (omega (arith, le, other)))
    ]

pub under_below : (p r : List ℕ) (b : ℕ) → IsUnder p r → slice_index r (length p) < b → row_cmp r (p ++ b ∷ []) ≡ Less
under_below p r b under lt = is_less (row_cmp r (p ++ b ∷ [])) (lt-next_cell p r b (slice_index r (length p)) under ∙ (let e : nat_lt (slice_index r (length p)) b ≡ true = grind (arith, nat_tests) in e))

pub under_not_below : (p r : List ℕ) (b : ℕ) → IsUnder p r → b ≤ slice_index r (length p) → is_lt (row_cmp r (p ++ b ∷ [])) ≡ false
under_not_below p r b under le = lt-next_cell p r b (slice_index r (length p)) under ∙ (let e : nat_lt (slice_index r (length p)) b ≡ false = grind (arith, nat_tests) in e)

-- what is above a row that isn't below a bound isn't below it either
pub not_below_after : (q r s : List ℕ) → is_lt (row_cmp r q) ≡ false → row_cmp r s ≡ Less → is_lt (row_cmp s q) ≡ false
not_below_after q r s past lt = by (is_lt (row_cmp s q)) refl
  where
    by : (t : Bool) → is_lt (row_cmp s q) ≡ t → t ≡ false
    by true e = absurd (true≢false (sym (ap is_lt (rows_total.trans r s q lt (is_less (row_cmp s q) e))) ∙ past))
    by false e = refl

-- from a row on that is past the bound and doesn't begin with the prefix, none does
pub none_from : (p r : List ℕ) (rest : List (List ℕ)) (b : ℕ) → next_cell p r ≡ None → is_lt (row_cmp r (p ++ b ∷ [])) ≡ false → AllByRecursion (λ s. row_cmp r s ≡ Less) rest → AllByRecursion (λ s. next_cell p s ≡ None) rest
none_from p r rest b none past up = each_weaker (λ s. row_cmp r s ≡ Less) (λ s. next_cell p s ≡ None) (λ s lt. none_after p r s b none past lt) rest up

-- ---- the first row from a bound on

pub first_past : (a b : List (List ℕ)) (q : List ℕ) → AllByRecursion (λ r. row_cmp r q ≡ Less) a → first_from (a ++ b) q ≡ first_from b q
first_past [] b q below = refl
first_past (r ∷ a) b q below = rw below.0 (first_past a b q below.1)

pub first_here : (r : List ℕ) (b : List (List ℕ)) (q : List ℕ) → is_lt (row_cmp r q) ≡ false → first_from (r ∷ b) q ≡ Some r
first_here r b q past = rw past refl

-- what was found isn't below the bound, and all before it are
pub first_is : (a b : List (List ℕ)) (r q : List ℕ) → IsAscending (a ++ r ∷ b) → first_from (a ++ r ∷ b) q ≡ Some r → AllByRecursion (λ s. row_cmp s q ≡ Less) a × (is_lt (row_cmp r q) ≡ false)
first_is [] b r q up found =
    elim (is_lt (row_cmp r q)) as (λ t. is_lt (row_cmp r q) ≡ t → cond (not t) (Some r) (first_from b q) ≡ Some r → ⊤ × (t ≡ false)) [
      | true ↦ λ e h. absurd (later b up.0 h)
      | false ↦ λ e h. (tt, refl)
    ] refl found
  where
    same_row : (x y : List ℕ) → Some x ≡ Some y → x ≡ y
    same_row x y e = cc

    later : (c : List (List ℕ)) → AllByRecursion (λ s. row_cmp r s ≡ Less) c → first_from c q ≡ Some r → ⊥
    later [] above h = (let e : ⊥ = cc in e)
    later (s ∷ c) above h =
        elim (is_lt (row_cmp s q)) as (λ t. cond (not t) (Some s) (first_from c q) ≡ Some r → ⊥) [
          | true ↦ λ k. later c above.1 k
          | false ↦ λ k. (let e = sym (cmp_itself r) ∙ subst (λ (x : List ℕ). row_cmp r x ≡ Less) (same_row s r k) above.0 in let bad : Equal ≡ Less = e in cc)
        ] h
first_is (s ∷ a) b r q up found =
    elim (is_lt (row_cmp s q)) as (λ t. is_lt (row_cmp s q) ≡ t → cond (not t) (Some s) (first_from (a ++ r ∷ b) q) ≡ Some r → AllByRecursion (λ x. row_cmp x q ≡ Less) (s ∷ a) × (is_lt (row_cmp r q) ≡ false)) [
      | true ↦ λ e h. (let below = first_is a b r q up.1 h in ((is_less (row_cmp s q) e, below.0), below.1))
      | false ↦ λ e h. absurd (
          let same : s ≡ r = cc in
          let lt : row_cmp s r ≡ Less = (each_right (λ x. row_cmp s x ≡ Less) a (r ∷ b) up.0).0 in
          let bad : Equal ≡ Less = sym (cmp_itself r) ∙ subst (λ (x : List ℕ). row_cmp x r ≡ Less) same lt in
          let no : ⊥ = cc in no)
    ] refl found
