-- Elements of lists by their places.
use Rattle.std.proofs.Common.{◌≡◌, ◌<◌, ℕ, zero, suc, List, [], ◌∷◌, length, get_or, refl, arith}

-- what stands for an element that isn't there doesn't matter where it is
pub element_there : {X : Type 0} (xs : List X) (i : ℕ) (d : X) → i < length xs → get_or xs i (get_or xs i d) ≡ get_or xs i d
element_there [] i d h = absurd (omega (arith, h))
element_there (x ∷ xs) zero d h = refl
element_there (x ∷ xs) (suc i) d h = let further : i < length xs = omega (arith, h) in element_there xs i d further
