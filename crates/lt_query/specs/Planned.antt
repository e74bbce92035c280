-- What the shape of a body decides of its plan.
use Rattle.std.specs.Prelude.{List, map}
use Rattle.lt_model.specs.declared.normal.Body.{Body}
use Rattle.lt_model.specs.declared.normal.Stmt.{Stmt}
use Rattle.lt_query.specs.declared.plans.Plan.{Plan}
use Rattle.lt_query.specs.declared.plans.Route.{Route}
use Rattle.std.specs.List.{AllByRecursion}
use Rattle.lt_query.specs.Needs.{body_of}
use Rattle.lt_query.specs.Runnable.{HasWidths}
use Rattle.lt_query.specs.Shape.{shape_of, plan_of, order_of}
use Rattle.lt_query.specs.Stated.{stated_plan}

-- the order and the guides of the plan of the body's shape
abbrev pub route_of : Body → Route
route_of body = record { order = order_of (shape_of body); guides = (plan_of (shape_of body)).guides }

-- those of each statement's body
abbrev pub routes_of : List Stmt → List Route
routes_of program = map (λ stmt. route_of (body_of stmt)) program

-- the plan of each statement's body
abbrev pub plans_of : List Stmt → List Plan
plans_of program = map (λ stmt. stated_plan (body_of stmt)) program

-- each atom of the program's statements has 1 to 8 columns
abbrev pub HaveWidths : List Stmt → Type 0
HaveWidths program = AllByRecursion (λ (stmt : Stmt). HasWidths (body_of stmt)) program
