-- What the slice of one key is sensitive to of the first level.
use Rattle.std.specs.Prelude.{◌≡◌, ℕ, ◌+◌, ◌≤◌, ◌&&◌, nat_lt, nat_le, if◌then◌else◌, List, [], ◌∷◌, ◌⊎◌, length, drop}
use Rattle.std.specs.List.{AllByRecursion, flat_map}
use Rattle.lt_face.specs.Lists.{IsIn}
use Rattle.lt_face.specs.State.{State}
use Rattle.lt_model.specs.declared.normal.Term.{Term}
use Rattle.lt_model.specs.declared.normal.Body.{Body}
use Rattle.lt_query.specs.Plan.{term_at}
use Rattle.lt_query.specs.declared.plans.Plan.{Plan}
use Rattle.lt_sense.specs.declared.covering.KeptGap.{KeptGap}
use Rattle.lt_sense.specs.Kept.{Sense}
use Rattle.lt_join.specs.Cost.{cost_from}
use Rattle.lt_join.specs.Holders.{atoms_at}
use Rattle.lt_join.specs.MendedPlan.{pinned_plan}
use Rattle.lt_join.specs.Sliced.{AreFoundKeys, IsSliceOf}
use Rattle.lt_join.specs.Slices.{Slice}
use Rattle.lt_join.specs.Walked.{at}

-- ---- parts of gaps

-- what the gap has at the key
abbrev pub part_at : ℕ → KeptGap → List KeptGap
part_at key gap = if nat_le gap.lo key && nat_lt key gap.hi then record gap { lo = key; hi = key + 1 } ∷ [] else []

-- what the gaps have at the key
abbrev pub parts_at : ℕ → List KeptGap → List KeptGap
parts_at key gaps = flat_map (part_at key) gaps

-- ---- the slice's sense

-- each gap is of the first level and has no cell but the key there, and no row was met
pub record IsAtKey (key : ℕ) (sense : Sense) : Type 0 where
  pub gaps : AllByRecursion (λ gap. (gap.prefix ≡ []) × (gap.lo ≡ key) × (gap.hi ≡ key + 1)) sense.gaps
  pub hits : sense.hits ≡ []

-- the moves that a join may make below the key at the first level
abbrev pub cost_below : ℕ → Body → Plan → State → ℕ
cost_below key body plan state = cost_from (length body.absents) state plan.guides (drop 1 plan.levels) 1 (at (key ∷ []))

-- All iterators of the first level have the key, and the moves below it alone account for the gaps: that level has none. They do for the
-- hits, too, but for those of the level's atoms that end there.
pub record IsBelowKey (key : ℕ) (body : Body) (plan : Plan) (state : State) (sense : Sense) : Type 0 where
  pub found : AreFoundKeys plan state (key ∷ [])
  pub gaps : length sense.gaps ≤ cost_below key body plan state
  pub hits : length sense.hits ≤ cost_below key body plan state + length (atoms_at plan.guides 0)

-- Of the first level the sense has the key alone: where an iterator of that level lacks the key, gaps at the key, and else no gap.
abbrev pub IsOfKey : ℕ → Body → Plan → State → Sense → Type 0
IsOfKey key body plan state sense = IsAtKey key sense ⊎ IsBelowKey key body plan state sense

-- the slice is of this state, and of the first level its sense has its own key alone
abbrev pub IsOwnSliceOf : List Term → Body → Plan → State → Slice → Type 0
IsOwnSliceOf terms body plan state slice =
    IsSliceOf terms body (term_at plan.levels 0) state slice × IsOfKey slice.key body (pinned_plan slice.key plan) state slice.sense

-- of the first level, the sense of each slice of one of these keys has the slice's own key alone
abbrev pub AreOfOwnKeys : List ℕ → Body → Plan → State → List Slice → Type 0
AreOfOwnKeys keys body plan state slices =
    (slice : Slice) → IsIn slice slices → IsIn slice.key keys → IsOfKey slice.key body (pinned_plan slice.key plan) state slice.sense
