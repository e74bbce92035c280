-- A list whose first element goes to its end, one place after another.
use Rattle.std.proofs.Common.{◌≡◌, ℕ, zero, suc, ◌+◌, ◌<◌, List, [], ◌∷◌, ◌++◌, take, drop, length, get_or, set, refl, sym, ap, ◌∙◌, subst, arith}

step_at : (x : ℕ) (ys : List ℕ) (i : ℕ) → i < length ys → set (take i ys ++ drop i (x ∷ ys)) i (get_or (take i ys ++ drop i (x ∷ ys)) (suc i) 0) ≡ take (suc i) ys ++ drop (suc i) (x ∷ ys)
step_at x [] i lt = absurd (omega arith)
step_at x (y ∷ zs) zero lt = refl
step_at x (y ∷ zs) (suc i) lt = ap (λ t. y ∷ t) (step_at y zs i (omega arith))

end_at : (h x : ℕ) (ys : List ℕ) → set (take (length ys) ys ++ drop (length ys) (h ∷ ys)) (length ys) x ≡ ys ++ x ∷ []
end_at h x [] = refl
end_at h x (y ∷ ys) = ap (λ t. y ∷ t) (end_at y x ys)

-- one place more
pub shifted : (xs l : List ℕ) (i v : ℕ) → i + 1 < length xs → l ≡ take i (drop 1 xs) ++ drop i xs → v ≡ get_or l (i + 1) 0 → set l i v ≡ take (i + 1) (drop 1 xs) ++ drop (i + 1) xs
shifted [] l i v lt is value = absurd (omega arith)
shifted (x ∷ ys) l i v lt is value =
    let n : suc i ≡ i + 1 = omega arith in
    let v_is : v ≡ get_or (take i ys ++ drop i (x ∷ ys)) (suc i) 0 = value ∙ ap (λ m. get_or l m 0) (sym n) ∙ ap (λ t. get_or t (suc i) 0) is in
    let step : set l i v ≡ take (suc i) ys ++ drop (suc i) (x ∷ ys) = ap (λ t. set t i v) is ∙ ap (λ w. set (take i ys ++ drop i (x ∷ ys)) i w) v_is ∙ step_at x ys i (omega arith) in
    subst (λ m. set l i v ≡ take m ys ++ drop m (x ∷ ys)) n step

-- the first at the end
pub closed : (xs l : List ℕ) (i v : ℕ) → i + 1 ≡ length xs → l ≡ take i (drop 1 xs) ++ drop i xs → v ≡ get_or xs 0 0 → set l i v ≡ drop 1 xs ++ take 1 xs
closed [] l i v n is value = absurd (omega arith)
closed (x ∷ ys) l i v n is value =
    let at : length ys ≡ i = omega arith in
    let whole : set (take i ys ++ drop i (x ∷ ys)) i v ≡ ys ++ v ∷ [] = subst (λ m. set (take m ys ++ drop m (x ∷ ys)) m v ≡ ys ++ v ∷ []) at (end_at x v ys) in
    ap (λ t. set t i v) is ∙ whole ∙ ap (λ w. ys ++ w ∷ []) value

-- whatever stands for one that isn't there
pub get_any : (xs : List ℕ) (i v : ℕ) → i < length xs → v ≡ get_or xs i v → v ≡ get_or xs i 0
get_any [] i v lt e = absurd (omega arith)
get_any (x ∷ xs) zero v lt e = e
get_any (x ∷ xs) (suc i) v lt e = get_any xs i v (omega arith) e
