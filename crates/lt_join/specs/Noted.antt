-- Gaps that were noted, each with the number of its index.
use Rattle.std.specs.Prelude.{◌≡◌, ◌<◌, ◌≤◌, ℕ, List, [], ◌∷◌, ◌++◌, ◌⊎◌, length, map, slice_get, Option, Some, None}
use Rattle.std.specs.List.{AllByRecursion}
use Rattle.lt_face.specs.Limits.{most_columns}
use Rattle.lt_sense.specs.declared.covering.KeptGap.{KeptGap}
use Rattle.lt_join.specs.declared.noting.NotedGap.{NotedGap}
use Rattle.lt_join.specs.declared.noting.NotedIndex.{NotedIndex}

-- a gap, where its index is known
abbrev pub gap_of : Option NotedIndex → NotedGap → KeptGap
gap_of None gap = record { relation = 0; columns = []; prefix = gap.prefix; lo = gap.lo; hi = gap.hi }
gap_of (Some index) gap = record { relation = index.relation; columns = index.columns; prefix = gap.prefix; lo = gap.lo; hi = gap.hi }

abbrev pub noted_gap : List NotedIndex → NotedGap → KeptGap
noted_gap indexes gap = gap_of (slice_get indexes gap.index) gap

abbrev pub noted_gaps : List NotedIndex → List NotedGap → List KeptGap
noted_gaps indexes gaps = map (noted_gap indexes) gaps

-- the index is there, and the gap isn't empty
abbrev pub IsNoted : List NotedIndex → NotedGap → Type 0
IsNoted indexes gap = (gap.index < length indexes) × (gap.lo < gap.hi)

-- no index has more columns than a row, and each gap's index is there
pub record AreNoted (indexes : List NotedIndex) (gaps : List NotedGap) : Type 0 where
  pub narrow : AllByRecursion (λ (index : NotedIndex). length index.columns ≤ most_columns) indexes
  pub each : AllByRecursion (IsNoted indexes) gaps

-- the index of this number is of this relation with its columns in this order
abbrev pub IsIndexAt : List NotedIndex → ℕ → List ℕ → ℕ → Type 0
IsIndexAt indexes relation columns at = slice_get indexes at ≡ Some (record { relation = relation; columns = columns })

-- they are the same, or this one came at the end
abbrev pub MoreIndexes : List NotedIndex → List NotedIndex → ℕ → List ℕ → Type 0
MoreIndexes old new relation columns = (new ≡ old) ⊎ (new ≡ old ++ record { relation = relation; columns = columns } ∷ [])
