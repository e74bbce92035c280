-- How many moves a join may make: a bound on the whole, and a potential, which bounds the moves that can still come.
use Rattle.std.specs.Prelude.{ℕ, ◌+◌, ◌*◌, ◌==◌, suc, nat_le, nat_lt, if◌then◌else◌, List, [], ◌∷◌, filter, length, map, slice_index}
use Rattle.lt_leap.specs.Ring.{keys_at}
use Rattle.lt_leap.specs.View.{LeapView}

-- how many keys the shortest list has
abbrev pub least_length : List (List ℕ) → ℕ
least_length [] = 0
least_length (keys ∷ []) = length keys
least_length (keys ∷ others ∷ rest) = let m = least_length (others ∷ rest) in if nat_lt (length keys) m then length keys else m

-- what k iterators may make of opens and moves together, the shortest with m keys: k * (m + 2)
abbrev pub join_cost : List (List ℕ) → ℕ
join_cost lists = length lists * (least_length lists + 2)

-- which list is the shortest
abbrev pub shortest : List (List ℕ) → ℕ
shortest [] = 0
shortest (keys ∷ []) = 0
shortest (keys ∷ others ∷ rest) = if nat_lt (length keys) (least_length (others ∷ rest)) then 0 else suc (shortest (others ∷ rest))

-- how many keys are at or above the bound
abbrev pub keys_left : List ℕ → ℕ → ℕ
keys_left keys bound = length (filter (λ k. nat_le bound k) keys)

-- how many turns of the ring come before that of iterator j
abbrev pub turns_before : ℕ → List ℕ → ℕ
turns_before j [] = 0
turns_before j (i ∷ is) = if i == j then 0 else turns_before j is + 1

-- so many moves can still come, by the keys that iterator j has left: it moves once a round, each time past a key
abbrev pub moves_left : List (List ℕ) → List ℕ → List ℕ → ℕ → ℕ
moves_left lists heres ring j = length ring * keys_left (keys_at lists j) (slice_index heres j) + turns_before j ring

-- the potential of a join: so many moves can still come, by the keys that the shortest has left
abbrev pub potential : {I : Type 0} → (I → List ℕ) → (I → ℕ) → LeapView I → ℕ
potential keys here leap = moves_left (map keys leap.iters) (map here leap.iters) leap.ring (shortest (map keys leap.iters))
