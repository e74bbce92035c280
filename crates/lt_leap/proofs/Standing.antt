-- Where each of several iterators stands.
use Rattle.std.proofs.Common.{◌≡◌, ℕ, zero, suc, ◌<◌, List, [], ◌∷◌, length, get_or, map, arith}
use Rattle.std.specs.List.{AllByRecursion}
use Rattle.lt_face.specs.Keys.{least_from}
use Rattle.lt_leap.specs.Ring.{keys_at}

pub first_at : {I : Type 0} (keys : I → List ℕ) (here : I → ℕ) (iters : List I) → AllByRecursion (λ iter. here iter ≡ least_from (keys iter) 0) iters
    → (i : ℕ) → i < length iters → get_or (map here iters) i 0 ≡ least_from (keys_at (map keys iters) i) 0
first_at keys here [] first i lt = absurd (omega arith)
first_at keys here (iter ∷ iters) first zero lt = first.0
first_at keys here (iter ∷ iters) first (suc i) lt = first_at keys here iters first.1 i (omega arith)

pub each_stands : {I : Type 0} (here : I → ℕ) (key : ℕ) (iters : List I) → ((i : ℕ) → i < length (map here iters) → get_or (map here iters) i 0 ≡ key) → AllByRecursion (λ iter. here iter ≡ key) iters
each_stands here key [] stands = tt
each_stands here key (iter ∷ iters) stands = (stands 0 (omega arith), each_stands here key iters (λ i lt. stands (suc i) (omega arith)))
