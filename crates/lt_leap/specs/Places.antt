-- Iterators that stand at some places of a list, and a join that goes round them.
use Rattle.std.specs.Prelude.{◌≡◌, ◌<◌, ◌≤◌, ◌≢◌, ◌+◌, ◌-◌, ℕ, zero, suc, List, [], ◌∷◌, ◌++◌, length, map, slice_index, slice_get, true, Some}
use Rattle.std.specs.List.{AllByRecursion, list_any}
use Rattle.lt_face.specs.declared.key.Gap.{Gap}
use Rattle.lt_face.specs.Lists.{IsIn}
use Rattle.lt_leap.specs.Ring.{keys_at}
use Rattle.lt_leap.specs.Moves.{Leads}
use Rattle.lt_leap.specs.Search.{IsGapOf, lies_in}

-- different places of a list with so many elements
pub record ArePlaces (places : List ℕ) (count : ℕ) : Type 0 where
  pub within : AllByRecursion (λ place. place < count) places
  pub distinct : (a b : ℕ) → a < b → b < length places → slice_index places a ≢ slice_index places b

-- the keys of the iterators at these places
abbrev pub lists_at : List (List ℕ) → List ℕ → List (List ℕ)
lists_at lists places = map (keys_at lists) places

-- where the iterators at these places stand
abbrev pub heres_at : List ℕ → List ℕ → List ℕ
heres_at heres places = map (slice_index heres) places

-- so many numbers from the first on
abbrev pub counted_from : ℕ → ℕ → List ℕ
counted_from first zero = []
counted_from first (suc n) = first ∷ counted_from (first + 1) n

-- the turns of so many, round once from this one on
abbrev pub turned : ℕ → ℕ → List ℕ
turned count turn = turn ∷ (counted_from (turn + 1) (count - (turn + 1)) ++ counted_from 0 turn)

-- where the iterator stands whose turn is first
abbrev pub first_of : List ℕ → List ℕ → ℕ
first_of heres ring = slice_index heres (slice_index ring 0)

-- where the iterator stands whose turn is last
abbrev pub last_of : List ℕ → List ℕ → ℕ
last_of heres ring = slice_index heres (slice_index ring (length ring - 1))

-- what became of one that was told these gaps, one after another, of iterators at their places of a list
abbrev pub Told : {P I : Type 0} → (P → ℕ → I → Gap → P → Type 0) → List I → P → List (ℕ × Gap) → P → Type 0
Told takes iters old [] new = new ≡ old
Told {P} {I} takes iters old (move ∷ moves) new =
    (iter : I) × (slice_get iters move.0 ≡ Some iter) × (mid : P) × takes old move.0 iter move.1 mid × Told takes iters mid moves new

-- the moves that were counted between two times: each is of an iterator at one of the places, leads on from where the one before
-- it led, and its gap, which has no key of its iterator, was told; and each number from start to below stop lies in a gap
pub record AreToldMoves {P I : Type 0} (takes : P → ℕ → I → Gap → P → Type 0) (iters : List I) (lists : List (List ℕ)) (places from to : List ℕ) (old new : P) (start stop begun now : ℕ) : Type 0 where
  pub moves : List (ℕ × Gap)
  pub leads : Leads lists from moves to
  pub counted : now ≡ begun + length moves
  pub told : Told takes iters old moves new
  pub gaps : AllByRecursion (λ move. IsIn move.0 places × IsGapOf lists move) moves
  pub covers : (k : ℕ) → start ≤ k → k < stop → list_any (lies_in k) moves ≡ true
