-- What whoever asks for a join sees to.
use Rattle.std.specs.Prelude.{◌≡◌, ◌≤◌, ℕ, Bool, true, List, length, IsTrue}
use Rattle.std.specs.List.{AllByRecursion}
use Rattle.lt_face.specs.Limits.{most_columns}
use Rattle.lt_face.specs.State.{State}
use Rattle.lt_model.specs.declared.normal.Atom.{Atom}
use Rattle.lt_model.specs.declared.normal.Body.{Body}
use Rattle.lt_model.specs.declared.normal.Term.{Term}
use Rattle.lt_model.specs.Bound.{are_bound}
use Rattle.lt_model.specs.Fits.{IsBodyOf}
use Rattle.lt_query.specs.Lists.{below}
use Rattle.lt_query.specs.Plan.{IsPlanOf}
use Rattle.lt_query.specs.Runnable.{IsRunnable}
use Rattle.lt_query.specs.declared.plans.Guide.{Guide}
use Rattle.lt_query.specs.declared.plans.Plan.{Plan}

-- the plan is the body's and a join can follow it, the body fits the state, each index that the plan goes through is there, and so
-- is the first index of each negated atom
pub record CanJoin (state : State) (has_index : ℕ → List ℕ → Bool) (body : Body) (plan : Plan) : Type 0 where
  pub of_body : IsPlanOf body plan
  pub runnable : IsRunnable body plan
  pub fits : IsBodyOf state body
  pub has_indexes : AllByRecursion (λ (guide : Guide). has_index guide.relation guide.columns ≡ true) plan.guides
  pub has_firsts : AllByRecursion (λ (atom : Atom). has_index atom.relation (below (length atom.terms)) ≡ true) body.absents

-- the terms are bound by the body, and a row of them has at most 8 columns
pub record AreAnswerable (body : Body) (terms : List Term) : Type 0 where
  pub are_bound : IsTrue (are_bound body terms)
  pub narrow : length terms ≤ most_columns
