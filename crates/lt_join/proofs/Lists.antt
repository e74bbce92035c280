-- Lists that grow at their end, or are put together.
use Rattle.std.specs.Prelude.{◌≡◌, ℕ, zero, suc, ◌+◌, ◌<◌, ◌≤◌, List, [], ◌∷◌, ◌++◌, length, take, Some}
use Rattle.std.specs.List.{AllByRecursion, AllZip}
use Rattle.std.proofs.Common.{refl, sym, ap, ◌∙◌, subst, inl, inr, arith, get_or}
use Rattle.lt_face.specs.Lists.{IsIn}

pub take_more : {X : Type 0} (xs : List X) (i : ℕ) (x : X) → i < length xs → x ≡ get_or xs i x → take (i + 1) xs ≡ take i xs ++ x ∷ []
take_more [] i x lt e = absurd (omega arith)
take_more (y ∷ xs) zero x lt e = ap (λ z. z ∷ []) (sym e)
take_more (y ∷ xs) (suc i) x lt e = (let n : suc i + 1 ≡ suc (i + 1) = omega arith in ap (λ m. take m (y ∷ xs)) n) ∙ ap (λ zs. y ∷ zs) (take_more xs i x (omega arith) e)

pub take_all : {X : Type 0} (xs : List X) (i : ℕ) → length xs ≤ i → take i xs ≡ xs
take_all [] zero le = refl
take_all [] (suc i) le = refl
take_all (y ∷ xs) zero le = absurd (omega arith)
take_all (y ∷ xs) (suc i) le = ap (λ zs. y ∷ zs) (take_all xs i (omega arith))

pub some_is : {X : Type 0} (x y : X) → Some x ≡ Some y → x ≡ y
some_is x y e = cc

pub length_append : {X : Type 0} (xs ys : List X) → length (xs ++ ys) ≡ length xs + length ys
length_append [] ys = omega arith
length_append (x ∷ xs) ys = let r = length_append xs ys in omega arith

pub all_append : {X : Type 0} (P : X → Type 0) (xs ys : List X) → AllByRecursion P xs → AllByRecursion P ys → AllByRecursion P (xs ++ ys)
all_append P [] ys h k = k
all_append P (x ∷ xs) ys h k = (h.0, all_append P xs ys h.1 k)

pub is_in_at : {X : Type 0} (xs : List X) (i : ℕ) (x : X) → i < length xs → x ≡ get_or xs i x → IsIn x xs
is_in_at [] i x lt e = absurd (omega (arith, lt))
is_in_at (y ∷ xs) zero x lt e = inl (sym e)
is_in_at (y ∷ xs) (suc i) x lt e = inr (is_in_at xs i x (omega (arith, lt)) e)

-- lists of one and of two
pub zip_one : {X Y : Type 0} (R : X → Y → Type 0) (xs : List X) (x : X) (y : Y) → length xs ≡ 1 → x ≡ get_or xs 0 x → R x y → AllZip R xs (y ∷ [])
zip_one R [] x y n is r = absurd (omega (arith, n))
zip_one R (z ∷ []) x y n is r = (subst (λ w. R w y) is r, tt)
zip_one R (z ∷ w ∷ xs) x y n is r = absurd (omega (arith, n))

pub zip_two : {X Y : Type 0} (R : X → Y → Type 0) (xs : List X) (x x' : X) (y y' : Y) → length xs ≡ 2 → x ≡ get_or xs 0 x → x' ≡ get_or xs 1 x' → R x y → R x' y' → AllZip R xs (y ∷ y' ∷ [])
zip_two R [] x x' y y' n is is' r r' = absurd (omega (arith, n))
zip_two R (z ∷ []) x x' y y' n is is' r r' = absurd (omega (arith, n))
zip_two R (z ∷ w ∷ []) x x' y y' n is is' r r' = (subst (λ v. R v y) is r, (subst (λ v. R v y') is' r', tt))
zip_two R (z ∷ w ∷ v ∷ xs) x x' y y' n is is' r r' = absurd (omega (arith, n))
