-- What a walk below some keys leaves.
use Rattle.std.specs.Prelude.{◌≡◌, ℕ, ◌+◌, ◌-◌, ◌^◌, ◌<◌, ◌≤◌, true, List, [], ◌∷◌, length, slice_index, slice_get, ◌⊎◌, if◌then◌else◌, Some, None, unwrap_or}
use Rattle.std.specs.List.{AllByRecursion}
use Rattle.lt_model.specs.declared.normal.Term.{Term}
use Rattle.lt_model.specs.declared.normal.Body.{Body}
use Rattle.lt_query.specs.declared.plans.Level.{Level}
use Rattle.lt_query.specs.declared.plans.Guide.{Guide}
use Rattle.lt_query.specs.declared.plans.Plan.{Plan}
use Rattle.lt_sense.specs.declared.covering.KeptGap.{KeptGap}
use Rattle.lt_sense.specs.declared.covering.Hit.{Hit}
use Rattle.lt_sense.specs.Kept.{Sense}
use Rattle.lt_join.specs.declared.Found.{Found}
use Rattle.lt_face.specs.Lists.{IsIn}
use Rattle.lt_face.specs.State.{Row, State}
use Rattle.lt_model.specs.Answers.{Assignment, Values, cell_of, cells_of, holds, give_all}
use Rattle.lt_model.specs.Cells.{is_cell}
use Rattle.lt_model.specs.Bound.{is_var}
use Rattle.lt_sense.specs.Sense.{IsTight}
use Rattle.lt_join.specs.Certify.{IsWitness, IsGapped, IsHitOf}
use Rattle.lt_face.specs.Lists.{AnyByRecursion}
use Rattle.lt_query.specs.Plan.{Keys, term_at}
use Rattle.lt_query.specs.Answering.{Stands, Lacks}
use Rattle.lt_leap.specs.Common.{common_keys}
use Rattle.lt_join.specs.Cost.{iterators_at}
use Rattle.lt_join.specs.Explored.{Fits, IsHopeless, IsPassed, hit_of, AreHits, with_key}

abbrev pub at : List ℕ → Keys
at keys l = slice_index keys l

-- the key at a variable's first level
abbrev pub value_from : List Level → ℕ → Keys → Values
value_from [] l keys v = None
value_from (level ∷ levels) l keys v = if is_var v level.term then Some (keys l) else value_from levels (l + 1) keys v

-- the assignment that the keys give
abbrev pub leaf_assignment : Body → List Level → Keys → Assignment
leaf_assignment body levels keys v = unwrap_or (give_all (value_from levels 0 keys) body.tests v) 0

-- a leaf's rows are hits, and the answer that its keys give was collected and its absent rows lie in gaps, or one of these is
-- a hit
pub record IsCollected {S : Type 0} (body : Body) (plan : Plan) (terms : List Term) (found : Found S) (keys : Keys) : Type 0 where
  pub hits : AreHits found.sense plan.guides keys
  pub answer : holds (leaf_assignment body plan.levels keys) body ≡ true →
      (IsIn (cells_of (leaf_assignment body plan.levels keys) terms) found.rows × AllByRecursion (IsGapped found.sense (leaf_assignment body plan.levels keys)) body.absents)
      ⊎ AnyByRecursion (IsHitOf found.sense (leaf_assignment body plan.levels keys)) body.absents

-- the same, of the sense alone
pub record IsSettled (body : Body) (plan : Plan) (sense : Sense) (keys : Keys) : Type 0 where
  pub hits : AreHits sense plan.guides keys
  pub looked : holds (leaf_assignment body plan.levels keys) body ≡ true →
      AllByRecursion (IsGapped sense (leaf_assignment body plan.levels keys)) body.absents ⊎ AnyByRecursion (IsHitOf sense (leaf_assignment body plan.levels keys)) body.absents

-- what was there still is
pub record Grows (old new : Sense) : Type 0 where
  pub gaps : (gap : KeptGap) → IsIn gap old.gaps → IsIn gap new.gaps
  pub hits : (hit : Hit) → IsIn hit old.hits → IsIn hit new.hits

pub record FoundGrows {S : Type 0} (old new : Found S) : Type 0 where
  pub sense : Grows old.sense new.sense
  pub rows : (row : Row) → IsIn row old.rows → IsIn row new.rows

-- what was found is right for the state
pub record IsRight {S : Type 0} (body : Body) (terms : List Term) (state : State) (found : Found S) : Type 0 where
  pub tight : IsTight found.sense state
  pub answers : AllByRecursion (IsWitness found.sense terms body state) found.rows

-- the terms' cells under an assignment that holds, whose rows the state has, whose absent rows it lacks, and whose cells at the
-- first levels are the keys
abbrev pub IsAnswerUnder : List Term → Body → Plan → State → List ℕ → Row → Type 0
IsAnswerUnder terms body plan state keys row =
    (a : Assignment) × (holds a body ≡ true) × Stands a body.atoms state × (cells_of a terms ≡ row) × ((l : ℕ) → l < length keys → cell_of a (term_at plan.levels l) ≡ at keys l) × Lacks a body.absents state

-- each row that was found was there before, or is an answer under the keys
abbrev pub AreFoundUnder : {S : Type 0} → List Term → Body → Plan → State → List ℕ → Found S → Found S → Type 0
AreFoundUnder terms body plan state keys old new = (row : Row) → IsIn row new.rows → IsIn row old.rows ⊎ IsAnswerUnder terms body plan state keys row

-- the atoms whose columns are all above the level have their rows among the hits
abbrev pub HitsAbove : Sense → List Guide → List ℕ → Type 0
HitsAbove sense guides keys =
    AllByRecursion (λ (guide : Guide). AllByRecursion (λ l. l < length keys) guide.places → IsIn (hit_of (at keys) guide) sense.hits) guides

-- keys down which a walk may go
pub record IsReached (plan : Plan) (sense : Sense) (keys : List ℕ) : Type 0 where
  pub within : length keys ≤ length plan.levels
  pub cells : AllByRecursion (λ k. is_cell k ≡ true) keys
  pub fit : (l : ℕ) (level : Level) → l < length keys → slice_get plan.levels l ≡ Some level → Fits level (at keys) (at keys l)
  pub hits : HitsAbove sense plan.guides keys

-- the key lies in a gap of an atom, or nothing holds that has it below the keys
abbrev pub IsSkipped : Body → Plan → Sense → List ℕ → ℕ → Type 0
IsSkipped body plan sense keys k =
    AnyByRecursion (IsPassed sense (length keys) (at keys) k) plan.guides ⊎ IsHopeless body plan.levels (length keys + 1) (with_key (at keys) (length keys) k)

-- the level below the keys stands at a key that fits, or at its end, and what it went past is skipped
pub record StandsAt (body : Body) (plan : Plan) (state : State) (old new : Sense) (keys : List ℕ) (level : Level) (from key : ℕ) : Type 0 where
  pub grows : Grows old new
  pub tight : IsTight new state
  pub skipped : (k : ℕ) → is_cell k ≡ true → from ≤ k → k < key → IsSkipped body plan new keys k
  pub found : key < 2 ^ 128 - 1 → (is_cell key ≡ true) × Fits level (at keys) key

-- the moves so far and those that the level may still make are within what was given, and the key is one of all iterators
pub record CostsAt (plan : Plan) (state : State) (keys : List ℕ) (level : Level) (given now left key : ℕ) : Type 0 where
  pub kept : now + left ≤ given
  pub is_common : key < 2 ^ 128 - 1 → IsIn key (common_keys (iterators_at state plan.guides level (length keys) (at keys)))
