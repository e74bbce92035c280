-- Ascending lists of rows that are joined from entries.
use Rattle.std.proofs.Common.{◌≡◌, ℕ, zero, suc, ◌-◌, ◌<◌, ◌≤◌, Bool, true, false, cond, not, ◌||◌, length, get_or, take, drop, List, [], ◌∷◌, ◌++◌, refl, sym, ap, ◌∙◌, subst, arith, append_assoc, Option, Some, None}
use mathlib.Core.Bool.{true≢false}
use Rattle.std.specs.List.{AllByRecursion}
use Rattle.std.specs.declared.cmp.Ordering.{Ordering}
use Rattle.std.specs.declared.cmp.Ordering.TheVariants.{Less, Equal, Greater}
use Rattle.std.specs.Ordering.{is_lt, is_eq, is_gt}
use Rattle.lt_face.specs.Rows.{row_cmp, IsAscending, has_row, first_from, with_row, without_row}
use Rattle.lt_face.proofs.RowLemmas.{rows_total, rows_exact, each_weaker, less_back, greater_back, with_row-after, with_row-before}
use Rattle.lt_shared.specs.Entries.{joined, IsFirst, IsPlace, IsNear, IsOrNext}

Rows : Type 0
Rows = List (List ℕ)

-- ---- facts of each row of lists that are joined

pub each-append : (P : List ℕ → Type 0) (a b : List (List ℕ)) → AllByRecursion P a → AllByRecursion P b → AllByRecursion P (a ++ b)
each-append P [] b ha hb = hb
each-append P (x ∷ a) b ha hb = (ha.0, each-append P a b ha.1 hb)

pub each-left : (P : List ℕ → Type 0) (a b : List (List ℕ)) → AllByRecursion P (a ++ b) → AllByRecursion P a
each-left P [] b h = tt
each-left P (x ∷ a) b h = (h.0, each-left P a b h.1)

pub each-right : (P : List ℕ → Type 0) (a b : List (List ℕ)) → AllByRecursion P (a ++ b) → AllByRecursion P b
each-right P [] b h = h
each-right P (x ∷ a) b h = each-right P a b h.1

pub ascending-left : (a b : List (List ℕ)) → IsAscending (a ++ b) → IsAscending a
ascending-left [] b up = tt
ascending-left (x ∷ a) b up = (each-left (λ s. row_cmp x s ≡ Less) a b up.0, ascending-left a b up.1)

pub ascending-right : (a b : List (List ℕ)) → IsAscending (a ++ b) → IsAscending b
ascending-right [] b up = up
ascending-right (x ∷ a) b up = ascending-right a b up.1

-- ---- entries

pub joined-append : {X : Type 0} (f : X → List (List ℕ)) (xs ys : List X) → joined f (xs ++ ys) ≡ joined f xs ++ joined f ys
joined-append f [] ys = refl
joined-append f (x ∷ xs) ys = ap (λ t. f x ++ t) (joined-append f xs ys) ∙ sym (append_assoc (f x) (joined f xs) (joined f ys))

-- the entries before a place, the entry there, and those behind it
pub joined-at : {X : Type 0} (f : X → List (List ℕ)) (xs : List X) (at : ℕ) (x : X) → at < length xs → x ≡ get_or xs at x
    → joined f xs ≡ joined f (take at xs) ++ (f x ++ joined f (drop (suc at) xs))
joined-at f [] at x lt is = absurd (omega arith)
joined-at f (y ∷ ys) zero x lt is = ap (λ t. f t ++ joined f ys) (sym is)
joined-at f (y ∷ ys) (suc at) x lt is =
    ap (λ t. f y ++ t) (joined-at f ys at x (omega arith) is) ∙ sym (append_assoc (f y) (joined f (take at ys)) (f x ++ joined f (drop (suc at) ys)))

joined-split : {X : Type 0} (f : X → List (List ℕ)) (xs : List X) (at : ℕ) → joined f xs ≡ joined f (take at xs) ++ joined f (drop at xs)
joined-split f [] zero = refl
joined-split f [] (suc at) = refl
joined-split f (y ∷ ys) zero = refl
joined-split f (y ∷ ys) (suc at) =
    ap (λ t. f y ++ t) (joined-split f ys at) ∙ sym (append_assoc (f y) (joined f (take at ys)) (joined f (drop at ys)))

pub drop-at : {X : Type 0} (xs : List X) (at : ℕ) (x : X) → at < length xs → x ≡ get_or xs at x → drop at xs ≡ x ∷ drop (suc at) xs
drop-at [] at x lt is = absurd (omega arith)
drop-at (y ∷ ys) zero x lt is = ap (λ t. t ∷ ys) (sym is)
drop-at (y ∷ ys) (suc at) x lt is = drop-at ys at x (omega arith) is

-- rows before one that is not above q are below q
pub before_row : (a b : List (List ℕ)) (r q : List ℕ) → IsAscending (a ++ b) → IsFirst b r → (row_cmp r q ≡ Greater → ⊥) → AllByRecursion (λ s. row_cmp s q ≡ Less) a
before_row [] b r q up first le = tt
before_row (x ∷ a) [] r q up first le = absurd first
before_row (x ∷ a) (y ∷ b) r q up first le =
    (below (row_cmp r q) refl, before_row a (y ∷ b) r q up.1 first le)
  where
    x_below : row_cmp x r ≡ Less
    x_below = subst (λ t. row_cmp x t ≡ Less) first ((each-right (λ s. row_cmp x s ≡ Less) a (y ∷ b) up.0).0)

    below : (o : Ordering) → row_cmp r q ≡ o → row_cmp x q ≡ Less
    below Less e = rows_total.trans x r q x_below e
    below Equal e = let same = rows_exact r q e in subst (λ t. row_cmp x t ≡ Less) same x_below
    below Greater e = absurd (le e)

-- rows from one on that is above q are above q
pub from_row : (b : List (List ℕ)) (r q : List ℕ) → IsAscending b → IsFirst b r → row_cmp r q ≡ Greater → AllByRecursion (λ s. row_cmp s q ≡ Greater) b
from_row [] r q up first gt = absurd first
from_row (y ∷ b) r q up first gt =
    let y_above : row_cmp y q ≡ Greater = subst (λ t. row_cmp t q ≡ Greater) (sym first) gt in
    (y_above, each_weaker (λ s. row_cmp y s ≡ Less) (λ s. row_cmp s q ≡ Greater) (λ s h. less_back q s (rows_total.trans q y s (greater_back y q y_above) h)) b up.0)

pub first-append : (a b : List (List ℕ)) (r : List ℕ) → IsFirst a r → IsFirst (a ++ b) r
first-append [] b r first = absurd first
first-append (x ∷ a) b r first = first

pub not_greater : (o : Ordering) → is_gt o ≡ false → o ≡ Greater → ⊥
not_greater o h e = true≢false (sym (ap is_gt e) ∙ h)

is_greater : (o : Ordering) → is_gt o ≡ true → o ≡ Greater
is_greater Less h = absurd (true≢false (sym h))
is_greater Equal h = absurd (true≢false (sym h))
is_greater Greater h = refl

-- the first row of an entry, compared with q, tells of the entries before it or of those from it on
pub place-low : {X : Type 0} (f : X → List (List ℕ)) (xs : List X) (at : ℕ) (x : X) (r q : List ℕ) → IsAscending (joined f xs) → at < length xs → x ≡ get_or xs at x
    → IsFirst (f x) r → is_gt (row_cmp r q) ≡ false → AllByRecursion (λ s. row_cmp s q ≡ Less) (joined f (take at xs))
place-low f xs at x r q up lt is first le =
    before_row (joined f (take at xs)) (f x ++ joined f (drop (suc at) xs)) r q (subst IsAscending (joined-at f xs at x lt is) up)
    (first-append (f x) (joined f (drop (suc at) xs)) r first) (not_greater (row_cmp r q) le)

pub place-high : {X : Type 0} (f : X → List (List ℕ)) (xs : List X) (at : ℕ) (x : X) (r q : List ℕ) → IsAscending (joined f xs) → at < length xs → x ≡ get_or xs at x
    → IsFirst (f x) r → is_gt (row_cmp r q) ≡ true → AllByRecursion (λ s. row_cmp s q ≡ Greater) (joined f (drop at xs))
place-high f xs at x r q up lt is first gt =
    let rest = f x ++ joined f (drop (suc at) xs) in
    let here : joined f (drop at xs) ≡ rest = ap (joined f) (drop-at xs at x lt is) in
    subst (λ t. AllByRecursion (λ s. row_cmp s q ≡ Greater) t) (sym here)
    (from_row rest r q (ascending-right (joined f (take at xs)) rest (subst IsAscending (joined-at f xs at x lt is) up))
    (first-append (f x) (joined f (drop (suc at) xs)) r first) (is_greater (row_cmp r q) gt))

pub drop_all : {X : Type 0} (xs : List X) → drop (length xs) xs ≡ []
drop_all [] = refl
drop_all (x ∷ xs) = drop_all xs

-- where the places that were tried meet
pub place-met : {X : Type 0} (f : X → List (List ℕ)) (xs : List X) (q : List ℕ) (low : ℕ) → 0 < length xs → low ≤ length xs
    → AllByRecursion (λ r. row_cmp r q ≡ Less) (joined f (take (low - 1) xs)) → AllByRecursion (λ r. row_cmp r q ≡ Greater) (joined f (drop low xs))
    → IsPlace f xs q (low - 1)
place-met f [] q low some le before after = absurd (omega arith)
place-met f (x ∷ xs) q zero some le before after = record {
  within = omega arith;
  before = before;
  after = each-right (λ r. row_cmp r q ≡ Greater) (f x) (joined f xs) after;
}
place-met f (x ∷ xs) q (suc low) some le before after =
    let e : suc low - 1 ≡ low = omega arith in
    record {
      within = omega arith;
      before = before;
      after = subst (λ n. AllByRecursion (λ r. row_cmp r q ≡ Greater) (joined f (drop (suc n) (x ∷ xs)))) (sym e) after;
    }

-- ---- what is asked of joined rows is asked of the entry at the place

pub has-append : (a b : List (List ℕ)) (q : List ℕ) → has_row (a ++ b) q ≡ (has_row a q || has_row b q)
has-append [] b q = refl
has-append (x ∷ a) b q = ap (λ t. is_eq (row_cmp x q) || t) (has-append a b q) ∙ sym (or_assoc (is_eq (row_cmp x q)) (has_row a q) (has_row b q))
  where
    or_assoc : (s t u : Bool) → ((s || t) || u) ≡ (s || (t || u))
    or_assoc true t u = refl
    or_assoc false t u = refl

-- a row of one part is one of all
pub has-part : (a b c : List (List ℕ)) (q : List ℕ) → has_row b q ≡ true → has_row (a ++ (b ++ c)) q ≡ true
has-part a b c q here =
    has-append a (b ++ c) q ∙ ap (λ t. has_row a q || t) (has-append b c q ∙ ap (λ t. t || has_row c q) here) ∙ or_true (has_row a q)
  where
    or_true : (s : Bool) → (s || true) ≡ true
    or_true true = refl
    or_true false = refl

pub has-less : (a : List (List ℕ)) (q : List ℕ) → AllByRecursion (λ r. row_cmp r q ≡ Less) a → has_row a q ≡ false
has-less [] q h = refl
has-less (x ∷ a) q h = rw h.0 (has-less a q h.1)

pub has-greater : (a : List (List ℕ)) (q : List ℕ) → AllByRecursion (λ r. row_cmp r q ≡ Greater) a → has_row a q ≡ false
has-greater [] q h = refl
has-greater (x ∷ a) q h = rw h.0 (has-greater a q h.1)

has-middle : (a b c : List (List ℕ)) (q : List ℕ) → AllByRecursion (λ r. row_cmp r q ≡ Less) a → AllByRecursion (λ r. row_cmp r q ≡ Greater) c
    → has_row (a ++ (b ++ c)) q ≡ has_row b q
has-middle a b c q less greater =
    has-append a (b ++ c) q ∙ ap (λ t. t || has_row (b ++ c) q) (has-less a q less) ∙ has-append b c q ∙ ap (λ t. has_row b q || t) (has-greater c q greater) ∙ or_false (has_row b q)
  where
    or_false : (t : Bool) → (t || false) ≡ t
    or_false true = refl
    or_false false = refl

with-middle : (a b c : List (List ℕ)) (q : List ℕ) → AllByRecursion (λ r. row_cmp r q ≡ Less) a → AllByRecursion (λ r. row_cmp r q ≡ Greater) c
    → with_row (a ++ (b ++ c)) q ≡ a ++ (with_row b q ++ c)
with-middle a b c q less greater = with_row-after a (b ++ c) q less ∙ ap (λ t. a ++ t) (with_row-before b c q greater)

pub without-append : (a b : List (List ℕ)) (q : List ℕ) → without_row (a ++ b) q ≡ without_row a q ++ without_row b q
without-append [] b q = refl
without-append (x ∷ a) b q =
    elim (is_eq (row_cmp x q)) as (λ t. cond (not t) (x ∷ without_row (a ++ b) q) (without_row (a ++ b) q) ≡ cond (not t) (x ∷ without_row a q) (without_row a q) ++ without_row b q) [
      | true ↦ without-append a b q
      | false ↦ ap (λ t. x ∷ t) (without-append a b q)
    ]

pub without-less : (a : List (List ℕ)) (q : List ℕ) → AllByRecursion (λ r. row_cmp r q ≡ Less) a → without_row a q ≡ a
without-less [] q h = refl
without-less (x ∷ a) q h = rw h.0 (ap (λ t. x ∷ t) (without-less a q h.1))

pub without-greater : (a : List (List ℕ)) (q : List ℕ) → AllByRecursion (λ r. row_cmp r q ≡ Greater) a → without_row a q ≡ a
without-greater [] q h = refl
without-greater (x ∷ a) q h = rw h.0 (ap (λ t. x ∷ t) (without-greater a q h.1))

without-middle : (a b c : List (List ℕ)) (q : List ℕ) → AllByRecursion (λ r. row_cmp r q ≡ Less) a → AllByRecursion (λ r. row_cmp r q ≡ Greater) c
    → without_row (a ++ (b ++ c)) q ≡ a ++ (without_row b q ++ c)
without-middle a b c q less greater =
    without-append a (b ++ c) q ∙ ap (λ t. t ++ without_row (b ++ c) q) (without-less a q less)
    ∙ ap (λ t. a ++ t) (without-append b c q ∙ ap (λ t. without_row b q ++ t) (without-greater c q greater))

pub first-less : (a b : List (List ℕ)) (q : List ℕ) → AllByRecursion (λ r. row_cmp r q ≡ Less) a → first_from (a ++ b) q ≡ first_from b q
first-less [] b q h = refl
first-less (x ∷ a) b q h = rw h.0 (first-less a b q h.1)

-- where the entry has one, it is the first
pub first-some : (b c : List (List ℕ)) (q r : List ℕ) → first_from b q ≡ Some r → first_from (b ++ c) q ≡ Some r
first-some [] c q r h = cc
first-some (x ∷ b) c q r h =
    elim (is_lt (row_cmp x q)) as (λ t. cond (not t) (Some x) (first_from b q) ≡ Some r → cond (not t) (Some x) (first_from (b ++ c) q) ≡ Some r) [
      | true ↦ λ k. first-some b c q r k
      | false ↦ λ k. k
    ] h

-- and else the first of those behind it, which are not below q
first-none : (b c : List (List ℕ)) (q : List ℕ) → first_from b q ≡ None → first_from (b ++ c) q ≡ first_from c q
first-none [] c q h = refl
first-none (x ∷ b) c q h =
    elim (is_lt (row_cmp x q)) as (λ t. cond (not t) (Some x) (first_from b q) ≡ None → cond (not t) (Some x) (first_from (b ++ c) q) ≡ first_from c q) [
      | true ↦ λ k. first-none b c q k
      | false ↦ λ k. cc
    ] h

-- ---- the same, for entries

pub has-at : {X : Type 0} (f : X → List (List ℕ)) (xs : List X) (q : List ℕ) (at : ℕ) (x : X) → IsPlace f xs q at → x ≡ get_or xs at x → has_row (joined f xs) q ≡ has_row (f x) q
has-at f xs q at x place is =
    ap (λ t. has_row t q) (joined-at f xs at x place.within is) ∙ has-middle (joined f (take at xs)) (f x) (joined f (drop (suc at) xs)) q place.before place.after

-- a row of an entry is one of all
pub has-entry : {X : Type 0} (f : X → List (List ℕ)) (xs : List X) (q : List ℕ) (at : ℕ) (x : X) → at < length xs → x ≡ get_or xs at x → has_row (f x) q ≡ true → has_row (joined f xs) q ≡ true
has-entry f xs q at x within is here =
    ap (λ t. has_row t q) (joined-at f xs at x within is) ∙ has-part (joined f (take at xs)) (f x) (joined f (drop (suc at) xs)) q here

pub with-at : {X : Type 0} (f : X → List (List ℕ)) (xs : List X) (q : List ℕ) (at : ℕ) (x : X) → IsPlace f xs q at → x ≡ get_or xs at x
    → with_row (joined f xs) q ≡ joined f (take at xs) ++ (with_row (f x) q ++ joined f (drop (suc at) xs))
with-at f xs q at x place is =
    ap (λ t. with_row t q) (joined-at f xs at x place.within is) ∙ with-middle (joined f (take at xs)) (f x) (joined f (drop (suc at) xs)) q place.before place.after

pub without-at : {X : Type 0} (f : X → List (List ℕ)) (xs : List X) (q : List ℕ) (at : ℕ) (x : X) → IsPlace f xs q at → x ≡ get_or xs at x
    → without_row (joined f xs) q ≡ joined f (take at xs) ++ (without_row (f x) q ++ joined f (drop (suc at) xs))
without-at f xs q at x place is =
    ap (λ t. without_row t q) (joined-at f xs at x place.within is) ∙ without-middle (joined f (take at xs)) (f x) (joined f (drop (suc at) xs)) q place.before place.after

-- an entry of ascending rows ascends
pub ascending-at : {X : Type 0} (f : X → List (List ℕ)) (xs : List X) (at : ℕ) (x : X) → IsAscending (joined f xs) → at < length xs → x ≡ get_or xs at x → IsAscending (f x)
ascending-at f xs at x up lt is =
    ascending-left (f x) (joined f (drop (suc at) xs)) (ascending-right (joined f (take at xs)) (f x ++ joined f (drop (suc at) xs)) (subst IsAscending (joined-at f xs at x lt is) up))

pub each-at : {X : Type 0} (P : List ℕ → Type 0) (f : X → List (List ℕ)) (xs : List X) (at : ℕ) (x : X) → AllByRecursion P (joined f xs) → at < length xs → x ≡ get_or xs at x → AllByRecursion P (f x)
each-at P f xs at x all lt is =
    each-left P (f x) (joined f (drop (suc at) xs)) (each-right P (joined f (take at xs)) (f x ++ joined f (drop (suc at) xs)) (subst (AllByRecursion P) (joined-at f xs at x lt is) all))

not_lt : (o : Ordering) → o ≡ Greater → is_lt o ≡ false
not_lt o h = ap is_lt h

pub near_place : {X : Type 0} (f : X → List (List ℕ)) (xs : List X) (q : List ℕ) (at : ℕ) → IsPlace f xs q at → IsNear f xs q at
near_place f xs q at place = record {
  within = place.within;
  before = place.before;
  after = each_weaker (λ r. row_cmp r q ≡ Greater) (λ r. is_lt (row_cmp r q) ≡ false) (λ r. not_lt (row_cmp r q)) (joined f (drop (suc at) xs)) place.after;
}

pub first-at-some : {X : Type 0} (f : X → List (List ℕ)) (xs : List X) (q r : List ℕ) (at : ℕ) (x : X) → IsNear f xs q at → x ≡ get_or xs at x
    → first_from (f x) q ≡ Some r → first_from (joined f xs) q ≡ Some r
first-at-some f xs q r at x near is some =
    ap (λ t. first_from t q) (joined-at f xs at x near.within is) ∙ first-less (joined f (take at xs)) (f x ++ joined f (drop (suc at) xs)) q near.before
    ∙ first-some (f x) (joined f (drop (suc at) xs)) q r some

first-at-none : {X : Type 0} (f : X → List (List ℕ)) (xs : List X) (q : List ℕ) (at : ℕ) (x : X) → IsNear f xs q at → x ≡ get_or xs at x
    → first_from (f x) q ≡ None → first_from (joined f xs) q ≡ first_from (joined f (drop (suc at) xs)) q
first-at-none f xs q at x near is none =
    ap (λ t. first_from t q) (joined-at f xs at x near.within is) ∙ first-less (joined f (take at xs)) (f x ++ joined f (drop (suc at) xs)) q near.before
    ∙ first-none (f x) (joined f (drop (suc at) xs)) q none

first-head : (b : List (List ℕ)) (q r : List ℕ) → AllByRecursion (λ s. is_lt (row_cmp s q) ≡ false) b → IsFirst b r → first_from b q ≡ Some r
first-head [] q r h first = absurd first
first-head (x ∷ b) q r h first = rw h.0 (ap Some first)

-- none in the entry: the first row of the next entry
pub first-at-next : {X : Type 0} (f : X → List (List ℕ)) (xs : List X) (q r : List ℕ) (at : ℕ) (x y : X) → IsNear f xs q at → x ≡ get_or xs at x
    → first_from (f x) q ≡ None → suc at < length xs → y ≡ get_or xs (suc at) y → IsFirst (f y) r → first_from (joined f xs) q ≡ Some r
first-at-next f xs q r at x y near is none lt next first =
    let here : joined f (drop (suc at) xs) ≡ f y ++ joined f (drop (suc (suc at)) xs) = ap (joined f) (drop-at xs (suc at) y lt next) in
    first-at-none f xs q at x near is none ∙ first-head (joined f (drop (suc at) xs)) q r near.after
    (subst (λ t. IsFirst t r) (sym here) (first-append (f y) (joined f (drop (suc (suc at)) xs)) r first))

pub drop_past : {X : Type 0} (xs : List X) (n : ℕ) → length xs ≤ n → drop n xs ≡ []
drop_past [] zero le = refl
drop_past [] (suc n) le = refl
drop_past (x ∷ xs) zero le = absurd (omega arith)
drop_past (x ∷ xs) (suc n) le = drop_past xs n (omega arith)

-- none in the last entry: none at all
pub first-at-end : {X : Type 0} (f : X → List (List ℕ)) (xs : List X) (q : List ℕ) (at : ℕ) (x : X) → IsNear f xs q at → x ≡ get_or xs at x
    → first_from (f x) q ≡ None → length xs ≤ suc at → first_from (joined f xs) q ≡ None
first-at-end f xs q at x near is none le =
    first-at-none f xs q at x near is none ∙ ap (λ t. first_from (joined f t) q) (drop_past xs (suc at) le)

-- what is found in the entry, else at the head of the next, is what is found in all
pub found-or_next : {X : Type 0} (f : X → List (List ℕ)) (xs : List X) (q : List ℕ) (at : ℕ) (x : X) (found result : Option (List ℕ)) → IsNear f xs q at → x ≡ get_or xs at x
    → found ≡ first_from (f x) q → IsOrNext f xs at found result → result ≡ first_from (joined f xs) q
found-or_next f xs q at x (Some r) result near is e h = h ∙ sym (first-at-some f xs q r at x near is (sym e))
found-or_next f xs q at x None (Some r) near is e h = sym (first-at-next f xs q r at x (h.1.0) near is (sym e) h.0 (h.1.1) (h.1.2))
found-or_next f xs q at x None None near is e h = sym (first-at-end f xs q at x near is (sym e) h)

-- ---- places near a hint

first_has : (P : List ℕ → Type 0) (b : List (List ℕ)) (r : List ℕ) → AllByRecursion P b → IsFirst b r → P r
first_has P [] r all first = absurd first
first_has P (x ∷ b) r all first = subst P first all.0

pub first-wide : {X : Type 0} (P : List ℕ → Type 0) (f : X → List (List ℕ)) (xs : List X) (at : ℕ) (x : X) (r : List ℕ) → AllByRecursion P (joined f xs) → at < length xs → x ≡ get_or xs at x
    → IsFirst (f x) r → P r
first-wide P f xs at x r all lt is first = first_has P (f x) r (each-at P f xs at x all lt is) first

pub lt_not_gt : (o : Ordering) → is_lt o ≡ true → is_gt o ≡ false
lt_not_gt Less h = refl
lt_not_gt Equal h = refl
lt_not_gt Greater h = absurd (true≢false (sym h))

-- rows from one on that is not below q are not below q
pub from_not_below : (b : List (List ℕ)) (r q : List ℕ) → IsAscending b → IsFirst b r → is_lt (row_cmp r q) ≡ false → AllByRecursion (λ s. is_lt (row_cmp s q) ≡ false) b
from_not_below [] r q up first h = absurd first
from_not_below (y ∷ b) r q up first h =
    (here, each_weaker (λ s. row_cmp y s ≡ Less) (λ s. is_lt (row_cmp s q) ≡ false) later b up.0)
  where
    here : is_lt (row_cmp y q) ≡ false
    here = subst (λ t. is_lt (row_cmp t q) ≡ false) (sym first) h

    later : (s : List ℕ) → row_cmp y s ≡ Less → is_lt (row_cmp s q) ≡ false
    later s below = by (row_cmp s q) refl
      where
        by : (o : Ordering) → row_cmp s q ≡ o → is_lt o ≡ false
        by Less e = absurd (true≢false (sym (ap is_lt (rows_total.trans y s q below e)) ∙ here))
        by Equal e = refl
        by Greater e = refl

-- where an entry doesn't begin below q, no row from there on is below q
pub behind-next : {X : Type 0} (f : X → List (List ℕ)) (xs : List X) (q r : List ℕ) (at : ℕ) (x : X) → IsAscending (joined f xs) → at < length xs → x ≡ get_or xs at x
    → IsFirst (f x) r → is_lt (row_cmp r q) ≡ false → AllByRecursion (λ s. is_lt (row_cmp s q) ≡ false) (joined f (drop at xs))
behind-next f xs q r at x up lt is first not_less =
    let rest = f x ++ joined f (drop (suc at) xs) in
    let here : joined f (drop at xs) ≡ rest = ap (joined f) (drop-at xs at x lt is) in
    subst (λ t. AllByRecursion (λ s. is_lt (row_cmp s q) ≡ false) t) (sym here)
    (from_not_below rest r q (ascending-right (joined f (take at xs)) rest (subst IsAscending (joined-at f xs at x lt is) up))
    (first-append (f x) (joined f (drop (suc at) xs)) r first) not_less)

pub not_true : (b : Bool) → not b ≡ true → b ≡ false
not_true true h = sym h
not_true false h = refl
