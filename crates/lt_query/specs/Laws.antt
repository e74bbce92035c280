-- Laws of plans and of answers. Each is proved in `proofs/`.
use Rattle.std.specs.Prelude.{◌≡◌, ◌↔◌, true, List}
use Rattle.lt_face.specs.Lists.{IsIn}
use Rattle.lt_face.specs.Rows.{IsAscending}
use Rattle.lt_face.specs.State.{Row, State}
use Rattle.lt_model.specs.declared.normal.Term.{Term}
use Rattle.lt_model.specs.Answers.{answers, some_answer}
use Rattle.lt_model.specs.Bound.{are_bound}
use Rattle.lt_model.specs.declared.normal.Body.{Body}
use Rattle.lt_model.specs.Fits.{IsBodyOf}
use Rattle.lt_query.specs.Answering.{IsAnswer, IsSatisfied, AreTestsBound}
use Rattle.lt_query.specs.declared.plans.Plan.{Plan}
use Rattle.lt_query.specs.Plan.{IsPlanOf}
use Rattle.lt_query.specs.Runnable.{AreWide, HasWidths, AreFew, IsRunnable}
use Rattle.lt_query.specs.Shape.{shape_of, plan_of, order_of, blank_plan, filled}
use Rattle.lt_query.specs.Stated.{stated_plan, IsStatedPlan}

-- ---- plans

-- the atoms of a body that fits are as wide as the relations
abbrev pub FittingHasWidths : Type 0
FittingHasWidths = (state : State) (body : Body) → AreWide state → IsBodyOf state body → HasWidths body

-- a join can follow each plan of the body, in whatever order
abbrev pub PlansAreRunnable : Type 0
PlansAreRunnable = (state : State) (body : Body) (plan : Plan) → HasWidths body → IsBodyOf state body → IsPlanOf body plan → AreFew plan → IsRunnable body plan

-- a body has one plan in the stated order
abbrev pub OneStatedPlan : Type 0
OneStatedPlan = (body : Body) (plan other : Plan) → IsPlanOf body plan → IsStatedPlan body plan → IsPlanOf body other → IsStatedPlan body other → plan ≡ other

-- ---- answers

-- the answers ascend, so none is there twice
abbrev pub AnswersAscend : Type 0
AnswersAscend = (terms : List Term) (body : Body) (state : State) → IsAscending (answers terms body state)

-- they are the terms' cells under the assignments that hold, whose rows the state has, and none of whose absent rows it has
abbrev pub AnswersAreCells : Type 0
AnswersAreCells = (terms : List Term) (body : Body) (state : State) → AreTestsBound body → are_bound body terms ≡ true → (row : Row) → IsIn row (answers terms body state) ↔ IsAnswer terms body state row

-- there is one exactly where there is such an assignment
abbrev pub SomeIsSatisfied : Type 0
SomeIsSatisfied = (body : Body) (state : State) → AreTestsBound body → (some_answer body state ≡ true) ↔ IsSatisfied body state

-- two ascending lists with the same rows are one
abbrev pub OneAscending : Type 0
OneAscending = (xs ys : List Row) → IsAscending xs → IsAscending ys → ((row : Row) → IsIn row xs ↔ IsIn row ys) → xs ≡ ys

-- ---- shapes

-- the plan of a shape is that of each body of it, with 0 for each constant
abbrev pub PlanOfShape : Type 0
PlanOfShape = (body : Body) → plan_of (shape_of body) ≡ blank_plan (stated_plan body)

-- filled with the body's constants, it is the body's plan
abbrev pub FilledIsPlan : Type 0
FilledIsPlan = (body : Body) → filled body (order_of (shape_of body)) (plan_of (shape_of body)).guides ≡ stated_plan body
