-- What stays known of a list where a place is written, and where the last goes.
use Rattle.std.proofs.Common.{◌≡◌, ℕ, zero, suc, List, [], ◌∷◌, ◌++◌, map, length, refl, sym, ap, ◌∙◌, arith, length-append}
use Rattle.std.specs.Prelude.{set}
use Rattle.std.specs.List.{AllByRecursion}
use Rattle.std.proofs.lemmas.List.{map-append}

pub all_set : {X : Type 0} (P : X → Type 0) (xs : List X) (i : ℕ) (x : X) → AllByRecursion P xs → P x → AllByRecursion P (set xs i x)
all_set P [] i x all one = tt
all_set P (y ∷ xs) zero x all one = (one, all.1)
all_set P (y ∷ xs) (suc i) x all one = (all.0, all_set P xs i x all.1 one)

last_same : {X : Type 0} (xs ys : List X) (x y : X) → xs ++ x ∷ [] ≡ ys ++ y ∷ [] → (xs ≡ ys) × (x ≡ y)
last_same [] [] x y e = (refl, cc)
last_same [] (z ∷ ys) x y e = let n = ap length e in let m = length-append ys (y ∷ []) in absurd (omega (arith, n, m))
last_same (z ∷ xs) [] x y e = let n = ap length e in let m = length-append xs (x ∷ []) in absurd (omega (arith, n, m))
last_same (z ∷ xs) (w ∷ ys) x y e =
    let here : z ≡ w = cc in
    let rest : xs ++ x ∷ [] ≡ ys ++ y ∷ [] = cc in
    let both = last_same xs ys x y rest in
    (ap (λ v. v ∷ xs) here ∙ ap (λ l. w ∷ l) both.0, both.1)

-- where two lists have the same images, so have they without their last, and these
pub popped : {X Y Z : Type 0} (f : X → Z) (g : Y → Z) (xs front : List X) (x : X) (ys first : List Y) (y : Y) → xs ≡ front ++ x ∷ [] → ys ≡ first ++ y ∷ [] → map f xs ≡ map g ys → (map f front ≡ map g first) × (f x ≡ g y)
popped f g xs front x ys first y one two same =
    last_same (map f front) (map g first) (f x) (g y)
    (sym (map-append f front (x ∷ [])) ∙ (sym (ap (map f) one) ∙ (same ∙ (ap (map g) two ∙ map-append g first (y ∷ [])))))
