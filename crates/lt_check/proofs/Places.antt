-- The place of a heading that a loop has come to.
use Rattle.std.proofs.Common.{◌≡◌, ℕ, zero, suc, ◌+◌, ◌<◌, Bool, true, List, [], ◌∷◌, length, drop, get_or, Some, refl, sym, ap, subst, ◌∙◌, arith}
use Rattle.std.specs.Prelude.{position, nat_lt}
use Rattle.std.specs.List.{position_or_len}
use Rattle.std.proofs.lemmas.Bool.{lt-ltb}

first_here : {X : Type 0} (p : X → Bool) (xs : List X) (i : ℕ) (x : X) → i < length xs → x ≡ get_or xs i x → p x ≡ true → position_or_len p (drop i xs) ≡ 0
first_here p [] i x less at h = absurd (omega (arith, less))
first_here p (y ∷ xs) zero x less at h = let here : p y ≡ true = ap p (sym at) ∙ h in rw here refl
first_here p (y ∷ xs) (suc i) x less at h = first_here p xs i x (omega (arith, less)) at h

-- the first that passes stands here, where none before it does
pub place_here : {X : Type 0} (p : X → Bool) (xs : List X) (i : ℕ) (x : X) → i < length xs → x ≡ get_or xs i x → p x ≡ true → position_or_len p (drop i xs) + i ≡ position_or_len p xs → Some i ≡ position p xs
place_here p xs i x less at h before =
    let none : position_or_len p (drop i xs) ≡ 0 = first_here p xs i x less at h in
    let is : position_or_len p xs ≡ i = omega (arith, before, none) in
    let there : nat_lt (position_or_len p xs) (length xs) ≡ true = subst (λ n. nat_lt n (length xs) ≡ true) (sym is) (lt-ltb i (length xs) less) in
    rw there (ap Some (sym is))

-- the same, of a copy of the list
pub place_in : {X : Type 0} (p : X → Bool) (items xs : List X) (i : ℕ) (x : X) → items ≡ xs → i < length items → x ≡ get_or items i x → p x ≡ true → position_or_len p (drop i xs) + i ≡ position_or_len p xs → Some i ≡ position p xs
place_in p items xs i x same less at h before =
    place_here p xs i x (subst (λ (ys : List _). i < length ys) same less) (subst (λ (ys : List _). x ≡ get_or ys i x) same at) h before
