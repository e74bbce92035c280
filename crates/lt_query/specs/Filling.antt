-- Plans with other constants, and what they don't change of it. Each law is proved in `proofs/`.
use Rattle.std.specs.Prelude.{◌≡◌, ℕ, map}
use Rattle.lt_model.specs.declared.normal.Body.{Body}
use Rattle.lt_model.specs.declared.normal.Stmt.{Stmt}
use Rattle.lt_model.specs.Forms.{on_normal, on_body, on_stmt}
use Rattle.lt_query.specs.declared.plans.Level.{Level}
use Rattle.lt_query.specs.declared.plans.Plan.{Plan}
use Rattle.lt_query.specs.Needs.{body_of}
use Rattle.lt_query.specs.Planned.{route_of}
use Rattle.lt_query.specs.Runnable.{HasWidths}
use Rattle.lt_query.specs.Shape.{shape_of}
use Rattle.lt_query.specs.Stated.{stated_plan}

abbrev pub on_level : (ℕ → ℕ) → Level → Level
on_level f level = record { term = on_normal f level.term; pins = map f level.pins; ties = level.ties }

abbrev pub on_plan : (ℕ → ℕ) → Plan → Plan
on_plan f plan = record { levels = map (on_level f) plan.levels; guides = plan.guides }

-- a body with other constants has the same shape
abbrev pub ShapeStays : Type 0
ShapeStays = (f : ℕ → ℕ) (body : Body) → shape_of (on_body f body) ≡ shape_of body

-- and a statement's body the same route
abbrev pub RouteStays : Type 0
RouteStays = (f : ℕ → ℕ) (stmt : Stmt) → route_of (body_of (on_stmt f stmt)) ≡ route_of (body_of stmt)

-- its atoms are as wide
abbrev pub WidthsStay : Type 0
WidthsStay = (f : ℕ → ℕ) (stmt : Stmt) → HasWidths (body_of stmt) → HasWidths (body_of (on_stmt f stmt))

-- its plan is the first one's with these constants
abbrev pub PlanFollows : Type 0
PlanFollows = (f : ℕ → ℕ) (body : Body) → stated_plan (on_body f body) ≡ on_plan f (stated_plan body)
