-- Lists that are compared element by element.
use Rattle.std.proofs.Common.{◌≡◌, ◌∙◌, ◌+◌, ◌∷◌, [], ℕ, zero, suc, List, take, ap, subst, arith}
use Rattle.std.specs.Prelude.{Some, slice_get}
use Rattle.lt_model.specs.declared.kind.Kind.{Kind}

same_next : {X : Type 0} (xs ys : List X) (n : ℕ) (x : X) → take n xs ≡ take n ys → slice_get xs n ≡ Some x → slice_get ys n ≡ Some x → take (suc n) xs ≡ take (suc n) ys
same_next [] ys n x e p q = absurd cc
same_next (a ∷ xs) [] n x e p q = absurd cc
same_next (a ∷ xs) (b ∷ ys) zero x e p q = (let same : a ≡ b = cc in ap (λ z. z ∷ []) same)
same_next (a ∷ xs) (b ∷ ys) (suc n) x e p q =
    (let first : a ≡ b = cc in
    let rest : take n xs ≡ take n ys = cc in
    ap (λ z. z ∷ take (suc n) xs) first ∙ ap (λ zs. b ∷ zs) (same_next xs ys n x rest p q))

-- two lists that are the same so far, and in one place more
pub same_more : {X : Type 0} (xs ys : List X) (n : ℕ) (x : X) → take n xs ≡ take n ys → slice_get xs n ≡ Some x → slice_get ys n ≡ Some x → take (n + 1) xs ≡ take (n + 1) ys
same_more xs ys n x e p q = let next : suc n ≡ n + 1 = omega arith in subst (λ k. take k xs ≡ take k ys) next (same_next xs ys n x e p q)

-- the same name, kinds and keys
pub same_heading : (a b : List ℕ × List Kind × ℕ) → a.0 ≡ b.0 → a.1 ≡ b.1 → a.2 ≡ b.2 → a ≡ b
same_heading a b name kinds keys = λ i. (name i, kinds i, keys i)
