-- When a plan is one of a body's: an order of the variables of its atoms, whatever it is, that a join can follow.
use Rattle.std.specs.Prelude.{◌≡◌, ℕ, ◌+◌, ◌<◌, List, [], ◌∷◌, map, length, ⊤}
use Rattle.std.specs.List.{AllByRecursion, AllZip, slice_index_or}
use Rattle.lt_face.specs.Lists.{IsIn}
use Rattle.lt_face.specs.State.{permuted}
use Rattle.lt_model.specs.declared.normal.Term.{Term}
use Rattle.lt_model.specs.declared.normal.Term.TheVariants.{Var, Cell}
use Rattle.lt_model.specs.declared.normal.Atom.{Atom}
use Rattle.lt_model.specs.declared.syntax.Op.TheVariants.{Eq}
use Rattle.lt_model.specs.declared.normal.Test.{Test}
use Rattle.lt_model.specs.declared.normal.Test.TheVariants.{Cmp}
use Rattle.lt_model.specs.declared.normal.Body.{Body}
use Rattle.lt_model.specs.Answers.{Assignment, cell_of}
use Rattle.lt_query.specs.declared.plans.Level.{Level}
use Rattle.lt_query.specs.declared.plans.Guide.{Guide}
use Rattle.lt_query.specs.declared.plans.Plan.{Plan}
use Rattle.lt_query.specs.Lists.{IsRising}

-- the keys at the levels
abbrev pub Keys : Type 0
Keys = ℕ → ℕ

abbrev pub term_at : List Level → ℕ → Term
term_at levels l = (slice_index_or levels l (record { term = Cell 0; pins = []; ties = [] })).term

-- the keys under an assignment
abbrev pub keys_under : Assignment → List Level → Keys
keys_under a levels l = cell_of a (term_at levels l)

-- ---- guides

-- the levels of an atom's columns in the order of its index
abbrev pub levels_of : Guide → List ℕ
levels_of guide = permuted guide.columns guide.places

-- The columns' levels have the atom's terms. The index has each column once, in the order of the levels.
pub record IsGuideOf (levels : List Level) (atom : Atom) (guide : Guide) : Type 0 where
  pub relation : guide.relation ≡ atom.relation
  pub terms : atom.terms ≡ map (term_at levels) guide.places
  pub places : AllByRecursion (λ l. l < length levels) guide.places
  pub columns : AllByRecursion (λ c. c < length guide.places) guide.columns
  pub each : (c : ℕ) → c < length guide.places → IsIn c guide.columns
  pub as_long : length guide.columns ≡ length guide.places
  pub rising : IsRising (levels_of guide)

-- ---- levels

-- a variable's pin is a constant that a literal `v = c` equates it with; a constant's is the constant itself
abbrev pub IsPinOf : List Test → Term → ℕ → Type 0
IsPinOf tests (Cell c) pin = c ≡ pin
IsPinOf tests (Var v) pin = IsIn (Cmp (Var v) Eq (Cell pin)) tests

-- the level is the first with this variable
abbrev pub IsFirstLevel : List Level → ℕ → ℕ → Type 0
IsFirstLevel levels v l = (term_at levels l ≡ Var v) × ((m : ℕ) → m < l → term_at levels m ≡ Var v → ⊥)

-- a constant is a pin, and a later level of a variable is tied to its first
abbrev pub IsDetermined : List Level → ℕ → Level → Term → Type 0
IsDetermined levels l level (Cell c) = IsIn c level.pins
IsDetermined levels l level (Var v) = (m : ℕ) → m < l → IsFirstLevel levels v m → IsIn m level.ties

-- the level is right for the body, as the level of this number
pub record IsLevelOf (body : Body) (levels : List Level) (l : ℕ) (level : Level) : Type 0 where
  pub term : term_at levels l ≡ level.term
  pub pins : AllByRecursion (IsPinOf body.tests level.term) level.pins
  pub ties : AllByRecursion (λ m. (m < l) × (term_at levels m ≡ level.term)) level.ties
  pub determined : IsDetermined levels l level level.term

-- the rest of the levels, which begins at this number, is right for the body
abbrev pub AreLevelsFrom : Body → List Level → ℕ → List Level → Type 0
AreLevelsFrom body levels l [] = ⊤
AreLevelsFrom body levels l (level ∷ rest) = IsLevelOf body levels l level × AreLevelsFrom body levels (l + 1) rest

-- ---- plans

-- the plan is one of the body's
pub record IsPlanOf (body : Body) (plan : Plan) : Type 0 where
  -- one for each atom
  pub guides : AllZip (IsGuideOf plan.levels) body.atoms plan.guides
  pub levels : AreLevelsFrom body plan.levels 0 plan.levels
  -- each level is of some atom
  pub held : (l : ℕ) → l < length plan.levels → (guide : Guide) × IsIn guide plan.guides × IsIn l guide.places
