-- Lists in order: one more is put to one, and a sorted list is put in order by that.
use Rattle.std.proofs.Common.{◌≡◌, ℕ, zero, suc, ◌+◌, ◌-◌, ◌<◌, ◌≤◌, Bool, true, false, ◌||◌, List, [], ◌∷◌, ◌++◌, map, get_or, length, take, Some, refl, sym, ap, ◌∙◌, subst, arith, length-append}
use mathlib.Core.Bool.{true≢false}
use Rattle.std.specs.Prelude.{slice_get}
use Rattle.std.specs.List.{list_any}
use Rattle.std.specs.List.Sorted.{IsSorted}
use Rattle.std.specs.Ordering.{is_gt, is_lt, ordering_reverse}
use Rattle.std.specs.declared.cmp.Ordering.{Ordering}
use Rattle.std.specs.declared.cmp.Ordering.TheVariants.{Less, Equal, Greater}
use Rattle.std.specs.Cmp.{IsTotalOrder}
use Rattle.std.proofs.lemmas.List.Sorted.{ranks_by, sorted_far}
use Rattle.std.proofs.lemmas.Option.{slice_get_within, get_or_from_slice_get}
use Rattle.std.proofs.lemmas.List.Folds.{list_any-append}
use Rattle.std.proofs.lemmas.List.{map_push}
use Rattle.lt_face.specs.State.{Row}
use Rattle.lt_face.specs.Lists.{AreInOrder}
use Rattle.lt_sense.specs.Ordered.{AreUpTo, IsPut, IsSealedOf}
use Rattle.lt_sense.proofs.Sorted.{all_push, in_order_next}
use Rattle.lt_sense.proofs.Lies.{get_own, take_next, take_whole}

-- ---- one more

any_push : {X : Type 0} (p : X → Bool) (xs : List X) (x : X) → list_any p (xs ++ x ∷ []) ≡ (list_any p xs || p x)
any_push p xs x = list_any-append p xs (x ∷ []) ∙ ap (λ b. list_any p xs || b) (or_none (p x))
  where
    or_none : (b : Bool) → (b || false) ≡ b
    or_none true = refl
    or_none false = refl

-- the last comes before it
pub put_next : {X : Type 0} (cmp : X → X → Ordering) (before : X → X → Type 0) (covers : X → ℕ → Row → Bool) → ((a b c : X) → before a b → before b c → before a c) → (xs : List X) (l x : X) → AreInOrder before (xs ++ l ∷ []) → before l x
    → IsPut cmp before covers (xs ++ l ∷ []) ((xs ++ l ∷ []) ++ x ∷ []) x
put_next cmp before covers trans xs l x h lx = record {
  ordered = in_order_next before trans xs l x h lx;
  up_to = λ y up k. all_push (λ o. is_gt (cmp o y) ≡ false) (xs ++ l ∷ []) x up k;
  covered = λ relation row. any_push (λ y. covers y relation row) (xs ++ l ∷ []) x;
  few = (let e = length-append (xs ++ l ∷ []) (x ∷ []) in omega arith);
}

-- ---- one after another

-- what the first of them have become
pub record IsUniting {X : Type 0} (cmp : X → X → Ordering) (before : X → X → Type 0) (covers : X → ℕ → Row → Bool) (all out : List X) (i : ℕ) : Type 0 where
  pub ordered : AreInOrder before out
  pub below : (p : ℕ) (x : X) → slice_get all p ≡ Some x → i ≤ p → AreUpTo cmp out x
  pub covered : (relation : ℕ) (row : Row) → list_any (λ y. covers y relation row) out ≡ list_any (λ y. covers y relation row) (take i all)
  pub few : length out ≤ i

pub unite_begun : {X : Type 0} (cmp : X → X → Ordering) (before : X → X → Type 0) (covers : X → ℕ → Row → Bool) (all : List X) → IsUniting cmp before covers all [] 0
unite_begun cmp before covers all = record {
  ordered = tt;
  below = λ p x at le. tt;
  covered = λ relation row. refl;
  few = omega arith;
}

any_next : {X : Type 0} (p : X → Bool) (xs : List X) (i : ℕ) (x : X) → slice_get xs i ≡ Some x → list_any p (take (i + 1) xs) ≡ (list_any p (take i xs) || p x)
any_next p [] i x h = absurd cc
any_next p (y ∷ xs) zero x h = (let e : y ≡ x = cc in last (p y) ∙ ap p e)
  where
    last : (b : Bool) → (b || false) ≡ b
    last true = refl
    last false = refl
any_next p (y ∷ xs) (suc i) x h = (let n : suc i + 1 ≡ suc (i + 1) = omega arith in ap (λ m. list_any p (take m (y ∷ xs))) n) ∙ ap (λ b. p y || b) (any_next p xs i x h) ∙ regroup (p y) (list_any p (take i xs)) (p x)
  where
    regroup : (a b c : Bool) → (a || (b || c)) ≡ ((a || b) || c)
    regroup true b c = refl
    regroup false b c = refl

pub unite_next : {X : Type 0} (cmp : X → X → Ordering) (before : X → X → Type 0) (covers : X → ℕ → Row → Bool) (all out new : List X) (i : ℕ) (a : X) → slice_get all i ≡ Some a → ((p : ℕ) (x : X) → slice_get all p ≡ Some x → i ≤ p → is_gt (cmp a x) ≡ false)
    → IsUniting cmp before covers all out i → IsPut cmp before covers out new a → IsUniting cmp before covers all new (i + 1)
unite_next cmp before covers all out new i a at first m put = record {
  ordered = put.ordered;
  below = λ p x here le. put.up_to x (m.below p x here (omega (arith, le))) (first p x here (omega (arith, le)));
  covered = λ relation row. put.covered relation row ∙ ap (λ b. b || covers a relation row) (m.covered relation row) ∙ sym (any_next (λ y. covers y relation row) all i a at);
  few = (let x = put.few in let y = m.few in omega (arith, x, y));
}

pub unite_done : {X : Type 0} (cmp : X → X → Ordering) (before : X → X → Type 0) (covers : X → ℕ → Row → Bool) (all out : List X) (i : ℕ) → i ≡ length all → IsUniting cmp before covers all out i → IsSealedOf before covers all out
unite_done cmp before covers all out i e m = record {
  ordered = m.ordered;
  alike = λ relation row. m.covered relation row ∙ ap (λ xs. list_any (λ y. covers y relation row) xs) (take_whole all i (omega (arith, e)));
  few = (let y = m.few in omega (arith, y, e));
}

-- in a sorted list none begins behind a later one
not_less_back : (o : Ordering) → is_lt o ≡ false → is_gt (ordering_reverse o) ≡ false
not_less_back Less h = absurd (true≢false h)
not_less_back Equal h = refl
not_less_back Greater h = refl

pub sorted_up : {X Y : Type 0} (cmp : Y → Y → Ordering) → IsTotalOrder cmp → (f : X → Y) (xs : List X) (i : ℕ) (a : X) → IsSorted (λ x y. cmp (f x) (f y)) xs → slice_get xs i ≡ Some a
    → (p : ℕ) (y : Y) → slice_get (map f xs) p ≡ Some y → i ≤ p → is_gt (cmp (f a) y) ≡ false
sorted_up cmp total f xs i a up at p y there le =
    let b = image_back f xs p y there in
    let lt = slice_get_within xs p b.0 b.1 in
    let far : is_lt (cmp (f (get_or xs p a)) (f (get_or xs i a))) ≡ false = sorted_far (λ x y. is_lt (cmp (f x) (f y))) (ranks_by total f) xs up i p a le lt in
    let e : cmp (f b.0) (f a) ≡ cmp (f (get_or xs p a)) (f (get_or xs i a)) = ap (λ x. cmp (f x) (f a)) (sym (get_or_from_slice_get xs p b.0 a b.1)) ∙ ap (λ x. cmp (f (get_or xs p a)) (f x)) (sym (get_or_from_slice_get xs i a a at)) in
    subst (λ z. is_gt (cmp (f a) z) ≡ false) b.2
    (ap is_gt (total.antisymm (f a) (f b.0)) ∙ not_less_back (cmp (f b.0) (f a)) (ap is_lt e ∙ far))
  where
    image_back : {X Y : Type 0} (f : X → Y) (xs : List X) (p : ℕ) (y : Y) → slice_get (map f xs) p ≡ Some y → (x : X) × (slice_get xs p ≡ Some x) × (f x ≡ y)
    image_back f [] p y h = absurd cc
    image_back f (x ∷ xs) zero y h = (x, refl, cc)
    image_back f (x ∷ xs) (suc p) y h = image_back f xs p y h

pub ordered_next : {X Y : Type 0} (B : Y → Y → Type 0) → ((a b c : Y) → B a b → B b c → B a c) → (f : X → Y) (xs : List X) (i : ℕ) (d : X) → 1 ≤ i → i < length xs → AreInOrder B (map f (take i xs)) → B (f (get_or xs (i - 1) d)) (f (get_or xs i d)) → AreInOrder B (map f (take (i + 1) xs))
ordered_next B trans f xs zero d le lt h b = absurd (omega (arith, le))
ordered_next B trans f xs (suc k) d le lt h b =
    let n : suc k - 1 ≡ k = omega arith in
    let m : suc k ≡ k + 1 = omega arith in
    let one : take (suc k) xs ≡ take k xs ++ get_or xs k d ∷ [] = ap (λ z. take z xs) m ∙ take_next xs k (get_or xs k d) (omega (arith, lt)) (get_own xs k d (get_or xs k d) (omega (arith, lt))) in
    let two : take (suc k + 1) xs ≡ take (suc k) xs ++ get_or xs (suc k) d ∷ [] = take_next xs (suc k) (get_or xs (suc k) d) lt (get_own xs (suc k) d (get_or xs (suc k) d) lt) in
    let v : map f (take (suc k) xs) ≡ map f (take k xs) ++ f (get_or xs k d) ∷ [] = ap (map f) one ∙ map_push f (take k xs) (get_or xs k d) in
    let w : map f (take (suc k + 1) xs) ≡ (map f (take k xs) ++ f (get_or xs k d) ∷ []) ++ f (get_or xs (suc k) d) ∷ [] = ap (map f) two ∙ map_push f (take (suc k) xs) (get_or xs (suc k) d) ∙ ap (λ z. z ++ f (get_or xs (suc k) d) ∷ []) v in
    subst (AreInOrder B) (sym w) (in_order_next B trans (map f (take k xs)) (f (get_or xs k d)) (f (get_or xs (suc k) d)) (subst (AreInOrder B) v h) (subst (λ z. B (f (get_or xs z d)) (f (get_or xs (suc k) d))) n b))
