-- What the plan of a body depends on besides its constants: its shape.
use Rattle.std.specs.Prelude.{ℕ, Bool, true, false, ◌&&◌, ◌==◌, List, [], map, Option, Some, None}
use Rattle.std.specs.Cmp.Lexicographic.{pointwise}
use Rattle.lt_model.specs.declared.normal.Term.{Term}
use Rattle.lt_model.specs.declared.normal.Term.TheVariants.{Var, Cell}
use Rattle.lt_model.specs.declared.normal.Atom.{Atom}
use Rattle.lt_model.specs.declared.syntax.Op.TheVariants.{Eq}
use Rattle.lt_model.specs.declared.normal.Test.{Test}
use Rattle.lt_model.specs.declared.normal.Test.TheVariants.{Cmp}
use Rattle.lt_model.specs.declared.normal.Body.{Body}
use Rattle.lt_query.specs.declared.plans.Guide.{Guide}
use Rattle.lt_query.specs.declared.plans.Level.{Level}
use Rattle.lt_query.specs.declared.plans.Plan.{Plan}
use Rattle.lt_query.specs.LevelsOf.{levels_from}
use Rattle.lt_query.specs.Order.{places_of, stated_order, terms_at}
use Rattle.lt_query.specs.Stated.{stated_plan}

-- ---- shapes

-- with 0 for a constant
abbrev pub blank : Term → Term
blank (Var v) = Var v
blank (Cell c) = Cell 0

abbrev pub blank_atom : Atom → Atom
blank_atom atom = record { relation = atom.relation; terms = map blank atom.terms }

-- a literal `v = c` with 0 for its constant; all others are one, since they pin nothing
abbrev pub blank_test : Test → Test
blank_test (Cmp (Var v) Eq (Cell c)) = Cmp (Var v) Eq (Cell 0)
blank_test test = Cmp (Cell 0) Eq (Cell 0)

-- the relations of a body, its variables' numbers, which of its terms are constants, and which variables its literals pin;
-- negated atoms decide nothing of the plan
abbrev pub shape_of : Body → Body
shape_of body = record { atoms = map blank_atom body.atoms; absents = []; tests = map blank_test body.tests; vars = 0 }

-- ---- plans of shapes

abbrev pub blank_level : Level → Level
blank_level level = record { term = blank level.term; pins = map (λ c. 0) level.pins; ties = level.ties }

-- the plan, with 0 for each constant
abbrev pub blank_plan : Plan → Plan
blank_plan plan = record { levels = map blank_level plan.levels; guides = plan.guides }

abbrev pub plan_of : Body → Plan
plan_of shape = stated_plan shape

-- where the variables begin, in the stated order
abbrev pub order_of : Body → List ℕ
order_of shape = stated_order shape.tests (places_of shape.atoms)

-- an order of places and guides with the terms and the constants of a body
abbrev pub filled : Body → List ℕ → List Guide → Plan
filled body order guides = record { levels = levels_from body.tests [] (terms_at (places_of body.atoms) order); guides = guides }

-- ---- the comparison of shapes, computed

abbrev pub same_term : Term → Term → Bool
same_term (Var u) (Var v) = u == v
same_term (Cell c) (Cell d) = true
same_term t u = false

abbrev pub same_atom : Atom → Atom → Bool
same_atom a b = a.relation == b.relation && pointwise same_term a.terms b.terms

-- the variable that a literal `v = c` pins
abbrev pub pinned_by : Test → Option ℕ
pinned_by (Cmp (Var v) Eq (Cell c)) = Some v
pinned_by test = None

abbrev pub same_pin : Option ℕ → Option ℕ → Bool
same_pin (Some u) (Some v) = u == v
same_pin None None = true
same_pin p q = false

abbrev pub same_test : Test → Test → Bool
same_test a b = same_pin (pinned_by a) (pinned_by b)

abbrev pub same_shape : Body → Body → Bool
same_shape a b = pointwise same_atom a.atoms b.atoms && pointwise same_test a.tests b.tests
