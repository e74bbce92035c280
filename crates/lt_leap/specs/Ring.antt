-- The ring of places: who moves next.
use Rattle.std.specs.Prelude.{◌≡◌, ◌≢◌, ◌<◌, ◌≤◌, ℕ, ◌^◌, ◌==◌, true, List, [], length, slice_index, slice_index_or}
use Rattle.std.specs.List.{list_any}
use Rattle.lt_face.specs.Keys.{IsKeyList, IsPlace}

-- the keys of iterator j
abbrev pub keys_at : List (List ℕ) → ℕ → List ℕ
keys_at lists j = slice_index_or lists j []

-- each iterator has its turn, and their keys ascend along the ring
pub record IsRing (lists : List (List ℕ)) (heres ring : List ℕ) : Type 0 where
  pub some : 0 < length ring
  pub as_long : length ring ≡ length heres
  pub listed : length lists ≡ length heres
  pub covers : (j : ℕ) → j < length heres → list_any (λ i. i == j) ring ≡ true
  pub in_range : (a : ℕ) → a < length ring → slice_index ring a < length heres
  pub distinct : (a b : ℕ) → a < b → b < length ring → slice_index ring a ≢ slice_index ring b
  pub rises : (a b : ℕ) → a ≤ b → b < length ring → slice_index heres (slice_index ring a) ≤ slice_index heres (slice_index ring b)
  pub keyed : (j : ℕ) → j < length heres → IsKeyList (keys_at lists j)
  pub placed : (j : ℕ) → j < length heres → IsPlace (keys_at lists j) (slice_index heres j)

-- the ring is in order, and all iterators stand at the key
pub record IsFound (lists : List (List ℕ)) (heres ring : List ℕ) (key : ℕ) : Type 0 where
  pub is_ring : IsRing lists heres ring
  pub together : (i : ℕ) → i < length heres → slice_index heres i ≡ key
  pub low : key < 2 ^ 120

-- a ring of the first n iterators
pub record IsPart (lists : List (List ℕ)) (heres ring : List ℕ) (n : ℕ) : Type 0 where
  pub as_long : length ring ≡ n
  pub covers : (j : ℕ) → j < n → list_any (λ i. i == j) ring ≡ true
  pub in_range : (a : ℕ) → a < length ring → slice_index ring a < n
  pub distinct : (a b : ℕ) → a < b → b < length ring → slice_index ring a ≢ slice_index ring b
  pub rises : (a b : ℕ) → a ≤ b → b < length ring → slice_index heres (slice_index ring a) ≤ slice_index heres (slice_index ring b)
  pub keyed : (j : ℕ) → j < n → IsKeyList (keys_at lists j)
  pub placed : (j : ℕ) → j < n → IsPlace (keys_at lists j) (slice_index heres j)

-- no iterator before place i of the ring is above the key, and none from it on is below
pub record IsSlot (heres ring : List ℕ) (key i : ℕ) : Type 0 where
  pub within : i ≤ length ring
  pub before : (a : ℕ) → a < i → slice_index heres (slice_index ring a) ≤ key
  pub after : (a : ℕ) → i ≤ a → a < length ring → key ≤ slice_index heres (slice_index ring a)
