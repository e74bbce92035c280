-- What the conditions of a body leave of the keys of a level.
use Rattle.std.specs.Prelude.{◌≡◌, ◌<◌, ◌≤◌, ◌+◌, ◌⊎◌, ℕ, Bool, true, List, Some, length}
use Rattle.std.specs.List.{list_any}
use Rattle.lt_model.specs.declared.normal.Body.{Body}
use Rattle.lt_model.specs.Answers.{Assignment, Values}
use Rattle.lt_model.specs.Bound.{is_var}
use Rattle.lt_query.specs.declared.plans.Level.{Level}
use Rattle.lt_join.specs.declared.narrowing.Above.{Above}
use Rattle.lt_join.specs.declared.narrowing.KeyRange.{KeyRange}
use Rattle.lt_join.specs.Explored.{IsHopeless, with_key}
use Rattle.lt_join.specs.Values.{values_in}
use Rattle.lt_join.specs.Walked.{at}

-- the key is in the range
abbrev pub IsInRange : KeyRange → ℕ → Type 0
IsInRange range k = (range.lo ≤ k) × (k < range.hi)

-- nothing holds that has a key outside of the range below these keys
abbrev pub Leaves : Body → List Level → List ℕ → KeyRange → Type 0
Leaves body levels keys range =
    (k : ℕ) → (k < range.lo) ⊎ (range.hi ≤ k) → IsHopeless body levels (length keys + 1) (with_key (at keys) (length keys) k)

-- each value that is known is that of the assignment
abbrev pub Agrees : Values → Assignment → Type 0
Agrees values a = (v x : ℕ) → values v ≡ Some x → a v ≡ x

-- whether one of the levels has the variable
abbrev pub has_var : List Level → ℕ → Bool
has_var levels v = list_any (λ (level : Level). is_var v level.term) levels

-- what is known below some keys is so of the assignment: all values, or those of the variables of the levels above
abbrev pub AgreesWith : Above → Assignment → Type 0
AgreesWith above a = (v x : ℕ) → values_in above.values.now.cells v ≡ Some x → (above.exact ≡ true) ⊎ (has_var above.levels.now v ≡ true) → a v ≡ x
