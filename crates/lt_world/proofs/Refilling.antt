-- One list in the place of another, element by element.
use Rattle.std.proofs.Common.{◌≡◌, ℕ, zero, suc, ◌+◌, ◌<◌, List, [], ◌∷◌, ◌++◌, map, length, take, drop, get_or, Some, refl, sym, ap, subst, ◌∙◌, arith}
use Rattle.std.specs.Prelude.{set, slice_get}
use Rattle.std.specs.List.{AllByRecursion}

-- the first of the new ones, then those of the old that are left
abbrev pub turned : {X : Type 0} → ℕ → List X → List X → List X
turned i new old = take i new ++ drop i old

pub turned_one : {X Y : Type 0} (f : X → Y) (new old : List X) (i : ℕ) (x : X) → i < length new → i < length old → x ≡ get_or new i x → set (map f (turned i new old)) i (f x) ≡ map f (turned (suc i) new old)
turned_one f [] old i x here there is = absurd (omega (arith, here))
turned_one f (n ∷ new) [] i x here there is = absurd (omega (arith, there))
turned_one f (n ∷ new) (o ∷ old) zero x here there is = ap (λ (y : _). f y ∷ map f old) is
turned_one f (n ∷ new) (o ∷ old) (suc i) x here there is = ap (λ ys. f n ∷ ys) (turned_one f new old i x (omega (arith, here)) (omega (arith, there)) is)

pub turned_at : {X Y : Type 0} (f : X → Y) (new old : List X) (i : ℕ) (x : X) → i < length new → i < length old → x ≡ get_or old i x → slice_get (map f (turned i new old)) i ≡ Some (f x)
turned_at f [] old i x here there is = absurd (omega (arith, here))
turned_at f (n ∷ new) [] i x here there is = absurd (omega (arith, there))
turned_at f (n ∷ new) (o ∷ old) zero x here there is = ap (λ (y : _). Some (f y)) (sym is)
turned_at f (n ∷ new) (o ∷ old) (suc i) x here there is = turned_at f new old i x (omega (arith, here)) (omega (arith, there)) is

-- behind the last all are new
pub turned_all : {X : Type 0} (new old : List X) (i : ℕ) → length new ≡ i → length old ≡ i → turned i new old ≡ new
turned_all [] [] zero a b = refl
turned_all [] (o ∷ old) zero a b = absurd cc
turned_all (n ∷ new) old zero a b = absurd cc
turned_all [] old (suc i) a b = absurd cc
turned_all (n ∷ new) [] (suc i) a b = absurd cc
turned_all (n ∷ new) (o ∷ old) (suc i) a b = ap (λ xs. n ∷ xs) (turned_all new old i (omega (arith, a)) (omega (arith, b)))

-- what the first have, and the next, the first with the next have
pub taken_more : {X : Type 0} (P : X → Type 0) (xs : List X) (i : ℕ) (x : X) → i < length xs → x ≡ get_or xs i x → AllByRecursion P (take i xs) → P x → AllByRecursion P (take (suc i) xs)
taken_more P [] i x here is all one = absurd (omega (arith, here))
taken_more P (y ∷ xs) zero x here is all one = (rw (sym is) one, tt)
taken_more P (y ∷ xs) (suc i) x here is all one = (all.0, taken_more P xs i x (omega (arith, here)) is all.1 one)

-- the same, one further

one_more : (i : ℕ) → suc i ≡ i + 1
one_more i = omega arith

pub turned_next : {X Y : Type 0} (f : X → Y) (new old : List X) (i : ℕ) (x : X) → i < length new → i < length old → x ≡ get_or new i x → set (map f (turned i new old)) i (f x) ≡ map f (turned (i + 1) new old)
turned_next f new old i x here there is = turned_one f new old i x here there is ∙ ap (λ k. map f (turned k new old)) (one_more i)

pub taken_next : {X : Type 0} (P : X → Type 0) (xs : List X) (i : ℕ) (x : X) → i < length xs → x ≡ get_or xs i x → AllByRecursion P (take i xs) → P x → AllByRecursion P (take (i + 1) xs)
taken_next P xs i x here is all one = subst (λ k. AllByRecursion P (take k xs)) (one_more i) (taken_more P xs i x here is all one)

pub all_taken : {X : Type 0} (xs : List X) (i : ℕ) → length xs ≡ i → take i xs ≡ xs
all_taken [] zero e = refl
all_taken [] (suc i) e = absurd cc
all_taken (x ∷ xs) zero e = absurd cc
all_taken (x ∷ xs) (suc i) e = ap (λ ys. x ∷ ys) (all_taken xs i (omega (arith, e)))
