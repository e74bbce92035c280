-- Beginnings of one list, and histories.
use Rattle.std.proofs.Common.{◌≡◌, ℕ, zero, suc, ◌+◌, ◌≤◌, List, [], ◌∷◌, length, Some, slice_get, nat_lt, true, false, refl, ap, sym, ◌∙◌, arith}
use Rattle.std.proofs.lemmas.Bool.Decides.{nat_tests}
use mathlib.Core.List.{IsPrefix}
use Rattle.lt_readers.specs.declared.version.Version.{Version}
use Rattle.lt_readers.specs.Lists.{EndsIn, IsHistory}

-- each list begins with itself
pub prefix_self : {A : Type 0} (xs : List A) → IsPrefix xs xs
prefix_self [] = ([], refl)
prefix_self (x ∷ xs) = (let r = prefix_self xs in r.0, ap (λ ys. x ∷ ys) (prefix_self xs).1)

-- of two beginnings of one list the shorter begins the longer
pub prefix_shorter : {A : Type 0} (xs ys zs : List A) → IsPrefix xs zs → IsPrefix ys zs → length xs ≤ length ys → IsPrefix xs ys
prefix_shorter [] ys zs p q le = (ys, refl)
prefix_shorter (x ∷ xs) [] zs p q le = absurd (omega arith)
prefix_shorter (x ∷ xs) (y ∷ ys) [] p q le = absurd (cc (p.1))
prefix_shorter (x ∷ xs) (y ∷ ys) (z ∷ zs) p q le =
    let heads : x ≡ y = cc (p.1, q.1) in
    let rest = prefix_shorter xs ys zs (p.0, cc (p.1)) (q.0, cc (q.1)) (omega arith) in
    (rest.0, cc (heads, rest.1))

-- a beginning as long as the whole is the whole
pub prefix_whole : {A : Type 0} (xs ys : List A) → IsPrefix xs ys → length ys ≤ length xs → xs ≡ ys
prefix_whole [] [] p le = refl
prefix_whole [] (y ∷ ys) p le = absurd (omega arith)
prefix_whole (x ∷ xs) [] p le = absurd (cc (p.1))
prefix_whole (x ∷ xs) (y ∷ ys) p le =
    let rest = prefix_whole xs ys (p.0, cc (p.1)) (omega arith) in cc (p.1, rest)

-- what stands in a beginning stands in the whole, at the same place
pub prefix_get : {A : Type 0} (xs ys : List A) (k : ℕ) (x : A) → IsPrefix xs ys → slice_get xs k ≡ Some x → slice_get ys k ≡ Some x
prefix_get [] ys k x p h = absurd cc
prefix_get (y ∷ xs) [] k x p h = absurd (cc (p.1))
prefix_get (y ∷ xs) (z ∷ ys) zero x p h = cc (p.1, h)
prefix_get (y ∷ xs) (z ∷ ys) (suc k) x p h = prefix_get xs ys k x (p.0, cc (p.1)) h

-- the last stands at the last place
pub last_get : (log : List Version) (v : Version) → EndsIn log v → (n : ℕ) × (length log ≡ suc n) × (slice_get log n ≡ Some v)
last_get [] v h = absurd cc
last_get (u ∷ []) v h = (0, refl, h)
last_get (u ∷ (w ∷ rest)) v h = let t = last_get (w ∷ rest) v h in (suc t.0, ap suc t.1, t.2)

-- there is a first
pub first_get : (log : List Version) (v : Version) → EndsIn log v → (u : Version) × (slice_get log 0 ≡ Some u)
first_get [] v h = absurd cc
first_get (u ∷ rest) v h = (u, refl)

pub some_same : (a b : Version) → Some a ≡ Some b → a ≡ b
some_same a b e = cc

-- of two beginnings of one history the one with the lesser number begins the other
pub before : (xs ys zs : List Version) (v w : Version) → IsHistory xs → IsHistory ys → EndsIn xs v → EndsIn ys w → IsPrefix xs zs → IsPrefix ys zs → v.number ≤ w.number → IsPrefix xs ys
before xs ys zs v w hx hy lx ly px py le =
    let fx = first_get xs v lx in
    let fy = first_get ys w ly in
    let same : fx.0 ≡ fy.0 = some_same fx.0 fy.0 (sym (prefix_get xs zs 0 fx.0 px fx.1) ∙ prefix_get ys zs 0 fy.0 py fy.1) in
    let nx = last_get xs v lx in
    let ny = last_get ys w ly in
    let a : v.number ≡ fx.0.number + nx.0 = (hx fx.0 fx.1 nx.0 v nx.2).0 in
    let b : w.number ≡ fy.0.number + ny.0 = (hy fy.0 fy.1 ny.0 w ny.2).0 in
    let s : fx.0.number ≡ fy.0.number = ap (λ (u : Version). u.number) same in
    prefix_shorter xs ys zs px py (omega (arith, a, b, s, nx.1, ny.1, le))

pub less : (a b n m : ℕ) → n ≡ a → m ≡ b → nat_lt n m ≡ true → a ≤ b
less a b n m e f t = grind (arith, nat_tests)

pub not_less : (a b n m : ℕ) → n ≡ a → m ≡ b → nat_lt n m ≡ false → b ≤ a
not_less a b n m e f t = grind (arith, nat_tests)
