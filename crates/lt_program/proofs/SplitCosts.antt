-- The moves of a run whose joins are done in some way.
use Rattle.std.proofs.Common.{◌≡◌, ℕ, zero, suc, ◌+◌, ◌<◌, ◌≤◌, List, Option, Some, None, refl, ap, ◌∙◌, inl, inr, arith}
use Rattle.std.specs.Prelude.{slice_get}
use Rattle.std.proofs.lemmas.Bool.{cases_lt}
use Rattle.lt_face.specs.State.{State}
use Rattle.lt_model.specs.declared.normal.Body.{Body}
use Rattle.lt_model.specs.declared.normal.Stmt.{Stmt}
use Rattle.lt_model.specs.declared.normal.Stmt.TheVariants.{Insert, Delete, Replace, Require, Print}
use Rattle.lt_program.specs.Split.{IsNoLess, split_cost, whole_cost, statement_cost_by, cost_on_by, cost_of_first_by}
use Rattle.lt_program.specs.Tally.{statement_cost, cost_on, cost_of_first, ends_at, state_before}

-- ---- joins as wholes

pub statement_whole : (stmt : Stmt) (state : State) → statement_cost_by whole_cost stmt state ≡ statement_cost stmt state
statement_whole (Insert head keys body) state = refl
statement_whole (Delete head body) state = refl
statement_whole (Replace gone come keys body) state = refl
statement_whole (Require some body) state = refl
statement_whole (Print terms kinds body) state = refl

pub on_whole : (stmt : Option Stmt) (state : State) → cost_on_by whole_cost stmt state ≡ cost_on stmt state
on_whole None state = refl
on_whole (Some stmt) state = statement_whole stmt state

pub costs_whole : (n : ℕ) (program : List Stmt) (state : State) → cost_of_first_by whole_cost n program state ≡ cost_of_first n program state
costs_whole zero program state = refl
costs_whole (suc n) program state =
    ap (λ c. c + cost_on_by whole_cost (slice_get program n) (state_before n program state)) (costs_whole n program state)
    ∙ ap (λ c. cost_of_first n program state + c) (on_whole (slice_get program n) (state_before n program state))

pub whole_least : IsNoLess whole_cost
whole_least body state = omega arith

-- so many parts take no less, where there is one
pub split_least : (parts : ℕ) → 1 ≤ parts → IsNoLess (split_cost parts)
split_least zero some body state = absurd (omega (arith, some))
split_least (suc n) some body state = omega arith

-- where joins may take more, so may the evaluation of a statement
pub statement_least : (most : Body → State → ℕ) → IsNoLess most → (stmt : Stmt) (state : State) (old new : ℕ) → new ≤ old + statement_cost stmt state → new ≤ old + statement_cost_by most stmt state
statement_least most least (Insert head keys body) state old new h = (let one = least body state in omega arith)
statement_least most least (Delete head body) state old new h = (let one = least body state in omega arith)
statement_least most least (Replace gone come keys body) state old new h = (let one = least body state in omega arith)
statement_least most least (Require some body) state old new h = h
statement_least most least (Print terms kinds body) state old new h = (let one = least body state in omega arith)

-- ---- one statement after another

module _ (most : Body → State → ℕ) (program : List Stmt) (state : State) where
  pub cost_more : (begun mid now n : ℕ) → mid ≤ begun + cost_of_first_by most n program state → now ≤ mid + cost_on_by most (slice_get program n) (state_before n program state) → now ≤ begun + cost_of_first_by most (suc n) program state
  cost_more begun mid now n before step = omega arith

  -- what the first statements may take grows with their number
  cost_grows : (n k : ℕ) → n ≤ k → cost_of_first_by most n program state ≤ cost_of_first_by most k program state
  cost_grows n zero le = (let e : n ≡ 0 = omega arith in rw e (omega arith))
  cost_grows n (suc k) le = elim (cases_lt k n) [
    | inl lt ↦ (let e : n ≡ suc k = omega arith in rw e (omega arith))
    | inr ge ↦ (let rest = cost_grows n k ge in omega arith)
  ]

  -- a statement was begun, and the moves so far are within what the program's statements may take
  pub cost_within : (begun mid now n : ℕ) → n < ends_at program state → mid ≤ begun + cost_of_first_by most n program state → now ≤ mid + cost_on_by most (slice_get program n) (state_before n program state)
      → now ≤ begun + cost_of_first_by most (ends_at program state) program state
  cost_within begun mid now n lt before step =
      let one = cost_more begun mid now n before step in
      let all = cost_grows (suc n) (ends_at program state) (omega arith) in
      omega arith
