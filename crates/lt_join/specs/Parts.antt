-- What a body answers where the cell of a term lies in a range, and what that was sensitive to.
use Rattle.std.specs.Prelude.{◌≡◌, ℕ, Bool, ◌≤◌, ◌<◌, ◌^◌, true, List, [], length, slice_index, ◌⊎◌, ◌+◌}
use Rattle.std.specs.List.{AllByRecursion}
use Rattle.lt_face.specs.Lists.{IsIn, AnyByRecursion}
use Rattle.lt_face.specs.State.{Row, State}
use Rattle.lt_model.specs.declared.normal.Term.{Term}
use Rattle.lt_model.specs.declared.normal.Body.{Body}
use Rattle.lt_model.specs.Answers.{Assignment, cell_of, cells_of, holds}
use Rattle.lt_model.specs.Bound.{are_bound}
use Rattle.lt_model.specs.Cells.{is_cell}
use Rattle.lt_model.specs.declared.normal.Atom.{Atom}
use Rattle.lt_query.specs.Answering.{Stands, Lacks, AreTestsBound}
use Rattle.lt_query.specs.Lists.{IsRising, below}
use Rattle.lt_query.specs.Plan.{IsPlanOf, term_at}
use Rattle.lt_query.specs.declared.plans.Guide.{Guide}
use Rattle.lt_query.specs.declared.plans.Plan.{Plan}
use Rattle.lt_join.specs.Holders.{IsPrepared}
use Rattle.lt_sense.specs.Kept.{Sense}
use Rattle.lt_sense.specs.Sense.{IsTight}
use Rattle.lt_join.specs.Slices.{Slice}
use Rattle.lt_join.specs.Certify.{IsMet, IsMissed}
use Rattle.lt_join.specs.Sliced.{slice_keys, IsSliceOf, AreRootGaps, AreFoundKeys}
use Rattle.lt_join.specs.Walked.{IsSkipped}

-- the number is in the range from lo to below hi
abbrev pub IsBetween : ℕ → ℕ → ℕ → Type 0
IsBetween lo hi k = (lo ≤ k) × (k < hi)

-- the terms' cells under an assignment that holds, whose rows the state has, whose absent rows it lacks, and whose cell of the
-- term is in the range
abbrev pub IsAnswerWithin : List Term → Body → State → Term → ℕ → ℕ → Row → Type 0
IsAnswerWithin terms body state term lo hi row =
    (a : Assignment) × (holds a body ≡ true) × Stands a body.atoms state × (cells_of a terms ≡ row) × Lacks a body.absents state × IsBetween lo hi (cell_of a term)

-- the sense stands for the assignments whose cell of the term is in the range
abbrev pub CertifiesWithin : Sense → Body → State → Term → ℕ → ℕ → Type 0
CertifiesWithin sense body state term lo hi =
    (a : Assignment) → holds a body ≡ true → IsBetween lo hi (cell_of a term) →
    (AllByRecursion (IsMet sense state a) body.atoms × AllByRecursion (IsMissed sense state a) body.absents)
    ⊎ (AnyByRecursion (IsMissed sense state a) body.atoms ⊎ AnyByRecursion (IsMet sense state a) body.absents)

-- the rows are the answers in the range, and the sense certifies them and is tight
pub record IsPartOf (terms : List Term) (body : Body) (state : State) (term : Term) (lo hi : ℕ) (rows : List Row) (sense : Sense) : Type 0 where
  pub right : (row : Row) → IsIn row rows → IsAnswerWithin terms body state term lo hi row
  pub whole : (row : Row) → IsAnswerWithin terms body state term lo hi row → IsIn row rows
  pub certified : CertifiesWithin sense body state term lo hi
  pub tight : IsTight sense state

-- there are at most so many gaps, and at most so many hits
pub record IsAtMost (sense : Sense) (n : ℕ) : Type 0 where
  pub gaps : length sense.gaps ≤ n
  pub hits : length sense.hits ≤ n

-- ---- key by key

-- each cell of the range is one of the keys, or the sense has it in a gap of an atom at the first level, or nothing holds that has it
-- there
abbrev pub AreRootedWithin : Body → Plan → Sense → List ℕ → ℕ → ℕ → Type 0
AreRootedWithin body plan root keys lo hi = (k : ℕ) → is_cell k ≡ true → IsBetween lo hi k → IsIn k keys ⊎ IsSkipped body plan root [] k

-- the root gaps of a range, and the slices of the keys that were found in it, ascending
pub record AreSlicesWithin (terms : List Term) (body : Body) (plan : Plan) (state : State) (lo hi : ℕ) (root : Sense) (slices : List Slice) : Type 0 where
  pub ascending : IsRising (slice_keys slices)
  pub between : AllByRecursion (IsBetween lo hi) (slice_keys slices)
  pub each : AllByRecursion (IsSliceOf terms body (term_at plan.levels 0) state) slices
  pub found : AreFoundKeys plan state (slice_keys slices)
  pub rooted : AreRootedWithin body plan root (slice_keys slices) lo hi
  pub tight : IsTight root state
  pub root_hits : root.hits ≡ []
  pub root_gaps : AreRootGaps root

-- ---- where ranges begin and end

-- there are at most so many parts
abbrev pub most_parts : ℕ
most_parts = 16

abbrev pub bound_at : List ℕ → ℕ → ℕ
bound_at bounds i = slice_index bounds i

-- there are two bounds at least, none is above a later one, and each but the last is below the limit of cells
pub record AreBounds (bounds : List ℕ) : Type 0 where
  pub some : 2 ≤ length bounds
  pub rising : (i j : ℕ) → i ≤ j → j < length bounds → bound_at bounds i ≤ bound_at bounds j
  pub low : (i : ℕ) → i + 1 < length bounds → bound_at bounds i < 2 ^ 120

-- ---- what is asked

-- a body and a plan of it that can be walked for these terms: each index that the plan goes through is there, and so is the first
-- index of each negated atom
pub record IsJoinable (state : State) (has_index : ℕ → List ℕ → Bool) (body : Body) (plan : Plan) (terms : List Term) : Type 0 where
  pub of_body : IsPlanOf body plan
  pub prepared : IsPrepared body plan terms
  pub has_indexes : AllByRecursion (λ (guide : Guide). has_index guide.relation guide.columns ≡ true) plan.guides
  pub has_firsts : AllByRecursion (λ (atom : Atom). has_index atom.relation (below (length atom.terms)) ≡ true) body.absents
  pub tests : AreTestsBound body
  pub heads : are_bound body terms ≡ true
  pub has_levels : 0 < length plan.levels
