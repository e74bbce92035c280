-- How the slices of a body are mended where rows changed.
use Rattle.std.specs.Prelude.{◌≡◌, ℕ, true, List, [], Some, ◌⊎◌}
use Rattle.std.specs.List.{AllByRecursion}
use Rattle.lt_face.specs.Lists.{IsIn}
use Rattle.lt_face.specs.State.{Row, State, AgreeOn, permuted}
use Rattle.lt_trie.specs.Under.{next_cell}
use Rattle.lt_model.specs.declared.normal.Term.{Term}
use Rattle.lt_model.specs.declared.normal.Body.{Body}
use Rattle.lt_query.specs.declared.plans.Plan.{Plan}
use Rattle.lt_query.specs.Lists.{IsRising}
use Rattle.lt_query.specs.Plan.{term_at}
use Rattle.lt_sense.specs.declared.covering.KeptGap.{KeptGap}
use Rattle.lt_sense.specs.Kept.{Sense}
use Rattle.lt_sense.specs.Sense.{covers, gap_covers, IsTight}
use Rattle.lt_join.specs.Slices.{Slice}
use Rattle.lt_join.specs.Sliced.{slice_keys, IsSliceOf, AreRooted, AreRootGaps}

-- the root gaps of a body on a state, and its slices, ascending by their keys; beside the root gaps, which have the empty prefix,
-- nothing is kept
pub record AreSlicesOn (terms : List Term) (body : Body) (plan : Plan) (state : State) (root : Sense) (slices : List Slice) : Type 0 where
  pub ascending : IsRising (slice_keys slices)
  pub each : AllByRecursion (IsSliceOf terms body (term_at plan.levels 0) state) slices
  pub rooted : AreRooted body plan root (slice_keys slices)
  pub tight : IsTight root state
  pub root_hits : root.hits ≡ []
  pub root_gaps : AreRootGaps root

-- ---- touched keys

-- the row lies in the gap, and this is its cell behind the gap's prefix
abbrev pub LiesAt : KeptGap → ℕ → Row → ℕ → Type 0
LiesAt gap relation row k = (gap_covers gap relation row ≡ true) × (next_cell gap.prefix (permuted gap.columns row) ≡ Some k)

-- the slice of the key covers the row, or the row lies in a root gap at the key
abbrev pub Touches : Sense → List Slice → ℕ → Row → ℕ → Type 0
Touches root slices relation row k =
    ((slice : Slice) × IsIn slice slices × (slice.key ≡ k) × (covers slice.sense relation row ≡ true)) ⊎ ((gap : KeptGap) × IsIn gap root.gaps × LiesAt gap relation row k)

-- the keys have each one that is touched by a row on which the states don't agree
abbrev pub HaveTouched : List ℕ → Sense → List Slice → State → State → Type 0
HaveTouched keys root slices s t = (relation : ℕ) (row : Row) (k : ℕ) → (AgreeOn s t relation row → ⊥) → Touches root slices relation row k → IsIn k keys

-- ---- mended slices

-- slices of keys that aren't among these stay as they were, no others come, and each of these keys has a slice
pub record AreMended (keys : List ℕ) (old new : List Slice) : Type 0 where
  pub kept : (slice : Slice) → IsIn slice old → IsIn slice.key keys ⊎ IsIn slice new
  pub others : (slice : Slice) → IsIn slice new → IsIn slice.key keys ⊎ IsIn slice old
  pub has : (k : ℕ) → IsIn k keys → IsIn k (slice_keys new)

-- each slice of one of the keys is of this state
abbrev pub AreJoinedOn : List ℕ → List Term → Body → Plan → State → List Slice → Type 0
AreJoinedOn keys terms body plan state slices = (slice : Slice) → IsIn slice slices → IsIn slice.key keys → IsSliceOf terms body (term_at plan.levels 0) state slice
