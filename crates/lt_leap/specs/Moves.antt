-- Moves of several iterators, one after another. A move is given by the number of its iterator and the gap that it passes,
-- from its bound to where it lands.
use Rattle.std.specs.Prelude.{◌≡◌, ◌≢◌, ◌≤◌, ◌<◌, ◌+◌, ◌⊎◌, ⊤, ℕ, List, [], ◌∷◌, length, slice_index, slice_set, Option}
use Rattle.lt_face.specs.declared.key.Gap.{Gap}
use Rattle.lt_face.specs.Keys.{end_key, least_from}
use Rattle.lt_leap.specs.Noted.{gained}
use Rattle.lt_leap.specs.Ring.{keys_at}

-- iterators that stand at these keys can make the move: its iterator is not at its end, the bound is not below its key, and
-- it lands on the least key at or above the bound
pub record IsMove (lists : List (List ℕ)) (heres : List ℕ) (move : ℕ × Gap) : Type 0 where
  pub within : move.0 < length heres
  pub goes_on : slice_index heres move.0 ≢ end_key
  pub ahead : slice_index heres move.0 ≤ move.1.lo
  pub lands : move.1.hi ≡ least_from (keys_at lists move.0) move.1.lo

-- the moves lead from these keys to those, each from where its iterator stands
abbrev pub Leads : List (List ℕ) → List ℕ → List (ℕ × Gap) → List ℕ → Type 0
Leads lists from [] to = to ≡ from
Leads lists from (move ∷ moves) to = IsMove lists from move × Leads lists (slice_set from move.0 move.1.hi) moves to

-- the gaps of the moves in their order, each once; an empty one may be left out
abbrev pub AreGapsOf : List (ℕ × Gap) → List (ℕ × Gap) → Type 0
AreGapsOf [] [] = ⊤
AreGapsOf [] (gap ∷ gaps) = ⊥
AreGapsOf (move ∷ moves) [] = (move.1.hi ≤ move.1.lo) × AreGapsOf moves []
AreGapsOf (move ∷ moves) (gap ∷ gaps) = ((gap ≡ move) × AreGapsOf moves gaps) ⊎ ((move.1.hi ≤ move.1.lo) × AreGapsOf moves (gap ∷ gaps))

-- the moves that were counted between two times lead from these keys to those, and the notes gained their gaps
pub record AreMade (lists : List (List ℕ)) (from to : List ℕ) (old new : Option (List (ℕ × Gap))) (begun now : ℕ) : Type 0 where
  pub moves : List (ℕ × Gap)
  pub leads : Leads lists from moves to
  pub counted : now ≡ begun + length moves
  pub gaps : List (ℕ × Gap)
  pub is : new ≡ gained old gaps
  pub are_gaps : AreGapsOf moves gaps

-- as `AreMade`, of a call that gave up: at most its last move came after the last gap that was told
pub record IsGivenUp (lists : List (List ℕ)) (from to : List ℕ) (old new : Option (List (ℕ × Gap))) (begun now : ℕ) : Type 0 where
  pub mid : List ℕ
  pub told : ℕ
  pub made : AreMade lists from mid old new begun told
  pub last : List (ℕ × Gap)
  pub at_most_one : length last ≤ 1
  pub leads : Leads lists mid last to
  pub counted : now ≡ told + length last
