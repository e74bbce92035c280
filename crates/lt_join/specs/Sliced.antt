-- The answers of a body, key by key of its first variable.
use Rattle.std.specs.Prelude.{◌≡◌, ℕ, true, List, [], ◌∷◌, ◌++◌, map, ◌⊎◌, Some, slice_get}
use Rattle.std.specs.List.{AllByRecursion, flat_map}
use Rattle.lt_face.specs.Lists.{IsIn, AnyByRecursion}
use Rattle.lt_face.specs.State.{Row, State}
use Rattle.lt_model.specs.declared.normal.Term.{Term}
use Rattle.lt_model.specs.declared.normal.Term.TheVariants.{Cell}
use Rattle.lt_model.specs.declared.syntax.Op.TheVariants.{Eq}
use Rattle.lt_model.specs.declared.normal.Test.TheVariants.{Cmp}
use Rattle.lt_model.specs.declared.normal.Body.{Body}
use Rattle.lt_model.specs.Answers.{Assignment, cell_of, holds, answers}
use Rattle.lt_model.specs.Cells.{is_cell}
use Rattle.lt_leap.specs.Common.{common_keys}
use Rattle.lt_sense.specs.Kept.{Sense}
use Rattle.lt_sense.specs.Sense.{IsTight}
use Rattle.lt_query.specs.declared.plans.Plan.{Plan}
use Rattle.lt_query.specs.declared.plans.Level.{Level}
use Rattle.lt_join.specs.Slices.{Slice}
use Rattle.lt_join.specs.Certify.{Certifies, IsMissed}
use Rattle.lt_join.specs.Cost.{iterators_at}
use Rattle.lt_join.specs.Walked.{at, IsSkipped}

-- ---- a body with a term pinned

-- the body where the term has to be the key
abbrev pub pinned : Term → ℕ → Body → Body
pinned term key body = record body { tests = Cmp term Eq (Cell key) ∷ body.tests }

-- ---- slices

-- the keys of slices
abbrev pub slice_keys : List Slice → List ℕ
slice_keys slices = map (λ slice. slice.key) slices

-- the rows are the answers of the body with the term pinned to the key, and the sense certifies them and is tight
pub record IsSliceOf (terms : List Term) (body : Body) (term : Term) (state : State) (slice : Slice) : Type 0 where
  pub rows : slice.rows ≡ answers terms (pinned term slice.key body) state
  pub certified : Certifies slice.sense (pinned term slice.key body) state
  pub tight : IsTight slice.sense state

-- ---- the whole

-- of each assignment that holds, the term's cell is one of the keys, or one of its rows is absent and covered
abbrev pub CertifiesBut : List ℕ → Term → Sense → Body → State → Type 0
CertifiesBut keys term sense body state =
    (a : Assignment) → holds a body ≡ true → IsIn (cell_of a term) keys ⊎ AnyByRecursion (IsMissed sense state a) body.atoms

-- what the root gaps and the slices keep together
abbrev pub united : Sense → List Slice → Sense
united root slices = record {
  gaps = root.gaps ++ flat_map (λ slice. slice.sense.gaps) slices;
  hits = root.hits ++ flat_map (λ slice. slice.sense.hits) slices;
}

-- the rows of the slices, key after key
abbrev pub sliced_rows : List Slice → List Row
sliced_rows slices = flat_map (λ slice. slice.rows) slices

-- ---- the first level

-- each cell is one of the keys, or the sense has it in a gap of an atom at the first level, or nothing holds that has it there
abbrev pub AreRooted : Body → Plan → Sense → List ℕ → Type 0
AreRooted body plan root keys = (k : ℕ) → is_cell k ≡ true → IsIn k keys ⊎ IsSkipped body plan root [] k

-- its gaps are of the first level: no cells are above them
abbrev pub AreRootGaps : Sense → Type 0
AreRootGaps root = AllByRecursion (λ gap. gap.prefix ≡ []) root.gaps

-- each key was found there: all iterators of the first level have it
abbrev pub AreFoundKeys : Plan → State → List ℕ → Type 0
AreFoundKeys plan state keys =
    (level : Level) → slice_get plan.levels 0 ≡ Some level → AllByRecursion (λ k. IsIn k (common_keys (iterators_at state plan.guides level 0 (at [])))) keys
