-- The shortest list.
use Rattle.std.proofs.Common.{◌≡◌, ℕ, suc, ◌<◌, true, false, cond, nat_lt, List, [], ◌∷◌, length, refl, arith}
use Rattle.lt_leap.specs.Ring.{keys_at}
use Rattle.lt_leap.specs.Potential.{least_length, shortest}

pub shortest_within : (lists : List (List ℕ)) → 0 < length lists → shortest lists < length lists
shortest_within [] some = absurd (omega arith)
shortest_within (keys ∷ []) some = omega arith
shortest_within (keys ∷ others ∷ rest) some =
    let later = shortest_within (others ∷ rest) (omega arith) in
    elim (nat_lt (length keys) (least_length (others ∷ rest))) as (λ t. cond t 0 (suc (shortest (others ∷ rest))) < length (keys ∷ others ∷ rest)) [ true ↦ omega arith | false ↦ omega arith ]

pub shortest_least : (lists : List (List ℕ)) → length (keys_at lists (shortest lists)) ≡ least_length lists
shortest_least [] = refl
shortest_least (keys ∷ []) = refl
shortest_least (keys ∷ others ∷ rest) =
    let m = least_length (others ∷ rest) in
    elim (nat_lt (length keys) m) as (λ t. length (keys_at (keys ∷ others ∷ rest) (cond t 0 (suc (shortest (others ∷ rest))))) ≡ cond t (length keys) m) [
      | true ↦ refl
      | false ↦ shortest_least (others ∷ rest)
    ]
