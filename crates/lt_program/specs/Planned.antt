-- What a join is given: the plan of a body, and terms that are answered.
use Rattle.std.specs.Prelude.{◌≡◌, ◌≤◌, List, length, IsTrue}
use Rattle.std.specs.List.{AllByRecursion}
use Rattle.lt_face.specs.Limits.{most_columns}
use Rattle.lt_model.specs.declared.normal.Term.{Term}
use Rattle.lt_model.specs.declared.normal.Body.{Body}
use Rattle.lt_model.specs.Bound.{are_bound}
use Rattle.lt_model.specs.Fits.{IsTermOf}
use Rattle.lt_query.specs.declared.plans.Plan.{Plan}
use Rattle.lt_query.specs.Plan.{IsPlanOf}
use Rattle.lt_query.specs.Runnable.{IsRunnable}
use Rattle.lt_query.specs.Stated.{stated_plan}

-- the plan of the body in the stated order, and a join can follow it
pub record IsPlanned (body : Body) (plan : Plan) : Type 0 where
  pub stated : plan ≡ stated_plan body
  pub of_body : IsPlanOf body plan
  pub runnable : IsRunnable body plan

-- no literal asks anything
pub record IsEmpty (body : Body) : Type 0 where
  pub atoms : length body.atoms ≡ 0
  pub absents : length body.absents ≡ 0
  pub tests : length body.tests ≡ 0

-- at most 8 terms of the body, each bound by it
pub record ArePicked (body : Body) (terms : List Term) : Type 0 where
  pub narrow : length terms ≤ most_columns
  pub within : AllByRecursion (IsTermOf body.vars) terms
  pub bound : IsTrue (are_bound body terms)
