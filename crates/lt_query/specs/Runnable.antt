-- What a join asks of a plan besides that it is the body's.
use Rattle.std.specs.Prelude.{◌≡◌, ℕ, ◌+◌, ◌<◌, ◌≤◌, ◌^◌, List, length, IsTrue}
use Rattle.std.specs.List.{AllByRecursion}
use Rattle.lt_face.specs.Limits.{most_columns}
use Rattle.lt_face.specs.Rows.{IsCell}
use Rattle.lt_face.specs.State.{State, Relation}
use Rattle.lt_model.specs.declared.normal.Term.TheVariants.{Var}
use Rattle.lt_model.specs.declared.normal.Atom.{Atom}
use Rattle.lt_model.specs.declared.normal.Body.{Body}
use Rattle.lt_model.specs.Answers.{terms_of}
use Rattle.lt_model.specs.Bound.{stands}
use Rattle.lt_model.specs.Fits.{IsTermOf}
use Rattle.lt_query.specs.declared.plans.Level.{Level}
use Rattle.lt_query.specs.declared.plans.Guide.{Guide}
use Rattle.lt_query.specs.declared.plans.Plan.{Plan}
use Rattle.lt_query.specs.Plan.{term_at}

-- ---- the widths of atoms

-- 1 to 8
abbrev pub IsWidth : ℕ → Type 0
IsWidth n = (1 ≤ n) × (n ≤ most_columns)

-- these atoms have 1 to 8 columns each
abbrev pub AreAtomsWide : List Atom → Type 0
AreAtomsWide atoms = AllByRecursion (λ (atom : Atom). IsWidth (length atom.terms)) atoms

-- each atom, negated or not, has 1 to 8 columns
abbrev pub HasWidths : Body → Type 0
HasWidths body = AreAtomsWide body.atoms × AreAtomsWide body.absents

-- each relation has 1 to 8 columns
abbrev pub AreWide : State → Type 0
AreWide state = AllByRecursion (λ (relation : Relation). IsWidth relation.width) state

-- ---- the plan

-- a level has this variable
abbrev pub IsHeld : Plan → ℕ → Type 0
IsHeld plan v = (l : ℕ) × (l < length plan.levels) × (term_at plan.levels l ≡ Var v)

-- there are few iterators at each level: one for each atom, pin and tie
abbrev pub AreFew : Plan → Type 0
AreFew plan = AllByRecursion (λ (level : Level). length plan.guides + (length level.pins + length level.ties) < 2 ^ 32) plan.levels

-- The levels' pins are cells, and their variables the body's. Each atom has 1 to 8 columns, and each of its variables a
-- level. Each negated atom has 1 to 8 columns.
pub record IsRunnable (body : Body) (plan : Plan) : Type 0 where
  pub pins : AllByRecursion (λ (level : Level). AllByRecursion IsCell level.pins) plan.levels
  pub variables : AllByRecursion (λ (level : Level). IsTermOf body.vars level.term) plan.levels
  pub widths : AllByRecursion (λ (guide : Guide). IsWidth (length guide.places)) plan.guides
  pub absents : AreAtomsWide body.absents
  pub held : (v : ℕ) → IsTrue (stands (terms_of body.atoms) v) → IsHeld plan v
  pub few : AreFew plan
