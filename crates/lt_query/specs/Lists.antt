-- Words on lists.
use Rattle.std.specs.Prelude.{◌<◌, ℕ, zero, suc, List, [], ◌∷◌, ◌++◌, ⊤}
use Rattle.lt_face.specs.Lists.{IsIn, AreInOrder}

-- the numbers below n
abbrev pub below : ℕ → List ℕ
below zero = []
below (suc n) = below n ++ n ∷ []

-- each number is below those after it
abbrev pub IsRising : List ℕ → Type 0
IsRising xs = AreInOrder (λ x y. x < y) xs

-- no element stands twice
abbrev pub IsDistinct : {X : Type 0} → List X → Type 0
IsDistinct [] = ⊤
IsDistinct (x ∷ xs) = (IsIn x xs → ⊥) × IsDistinct xs
