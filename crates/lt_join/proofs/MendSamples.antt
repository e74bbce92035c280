-- e(x, y) on {(1, 2), (3, 4)}, and then with (5, 6).
use Rattle.std.specs.Prelude.{◌≡◌, ℕ, ◌+◌, ◌*◌, [], ◌∷◌}
use Rattle.std.proofs.Common.{refl}
use Rattle.lt_face.specs.State.{State}
use Rattle.lt_model.specs.declared.normal.Term.TheVariants.{Var}
use Rattle.lt_model.specs.declared.normal.Body.{Body}
use Rattle.lt_query.specs.declared.plans.Plan.{Plan}
use Rattle.lt_sense.specs.declared.covering.KeptGap.{KeptGap}
use Rattle.lt_sense.specs.Cut.{cut}
use Rattle.lt_join.specs.Mended.{LiesAt}
use Rattle.lt_join.specs.MendedPlan.{mending_cost}

abbrev sample_plan : Plan
sample_plan = record {
  levels = record { term = Var 0; pins = []; ties = [] } ∷ record { term = Var 1; pins = []; ties = [] } ∷ [];
  guides = record { relation = 0; places = 0 ∷ 1 ∷ []; columns = 0 ∷ 1 ∷ [] } ∷ [];
}

abbrev sample_body : Body
sample_body = record { atoms = record { relation = 0; terms = Var 0 ∷ Var 1 ∷ [] } ∷ []; absents = []; tests = []; vars = 2 }

abbrev sample_state : State
sample_state = record { width = 2; rows = (1 ∷ 2 ∷ []) ∷ (3 ∷ 4 ∷ []) ∷ (5 ∷ 6 ∷ []) ∷ [] } ∷ []

abbrev root_gap : ℕ → ℕ → KeptGap
root_gap lo hi = record { relation = 0; columns = 0 ∷ 1 ∷ []; prefix = []; lo = lo; hi = hi }

-- the new row lies in the last root gap, at the key 5; 9 stands for the end
sample_touched : LiesAt (root_gap 4 9) 0 (5 ∷ 6 ∷ []) 5
sample_touched = (refl, refl)

sample_cut : cut (5 ∷ []) (record { gaps = root_gap 0 1 ∷ root_gap 2 3 ∷ root_gap 4 9 ∷ []; hits = [] }) ≡ record { gaps = root_gap 0 1 ∷ root_gap 2 3 ∷ root_gap 4 5 ∷ root_gap 6 9 ∷ []; hits = [] }
sample_cut = refl

-- two iterators at the first level, one at the second, and one key at each
sample_cost : mending_cost (5 ∷ []) sample_body sample_plan sample_state ≡ 2 * (1 + 2) + 1 * (1 + 2)
sample_cost = refl

-- e(x, y), not e(y, x): one look-up more at the leaf
sample_cost_negated : mending_cost (5 ∷ []) (record sample_body { absents = record { relation = 0; terms = Var 1 ∷ Var 0 ∷ [] } ∷ [] }) sample_plan sample_state ≡ 2 * (1 + 2) + (1 * (1 + 2) + 1)
sample_cost_negated = refl

-- e(x, y), x = 5: no move for the key 3, which the pin forbids
sample_cost_forbidden : mending_cost (3 ∷ []) sample_body (record sample_plan { levels = record { term = Var 0; pins = 5 ∷ []; ties = [] } ∷ record { term = Var 1; pins = []; ties = [] } ∷ [] }) sample_state ≡ 0
sample_cost_forbidden = refl
