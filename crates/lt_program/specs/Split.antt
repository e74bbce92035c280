-- What the run of a program may take whose joins are done in some way, as by parts.
use Rattle.std.specs.Prelude.{ℕ, zero, suc, ◌+◌, ◌*◌, ◌≤◌, List, slice_get, Option, None, Some}
use Rattle.lt_face.specs.State.{State}
use Rattle.lt_model.specs.declared.normal.Body.{Body}
use Rattle.lt_model.specs.declared.normal.Stmt.{Stmt}
use Rattle.lt_model.specs.declared.normal.Stmt.TheVariants.{Insert, Delete, Replace, Require, Print}
use Rattle.lt_model.specs.Answers.{answers}
use Rattle.lt_query.specs.Stated.{stated_plan}
use Rattle.lt_join.specs.Cost.{bound}
use Rattle.lt_program.specs.Tally.{keys_cost, state_before}

-- so many moves the join of a body as a whole may take, in its stated plan
abbrev pub whole_cost : Body → State → ℕ
whole_cost body state = bound body (stated_plan body) state

-- so many moves it may take by so many parts: each of them may take what the whole may
abbrev pub split_cost : ℕ → Body → State → ℕ
split_cost parts body state = parts * whole_cost body state

-- each join may take what the whole may, or more
abbrev pub IsNoLess : (Body → State → ℕ) → Type 0
IsNoLess most = (body : Body) (state : State) → whole_cost body state ≤ most body state

-- so many moves the evaluation of a statement may take, where a join that finds all answers of a body may take `most`: that of its
-- body, of a `replace` once for each head, and the look-ups by the keys of the rows that come; a requirement's join is always a whole
abbrev pub statement_cost_by : (Body → State → ℕ) → Stmt → State → ℕ
statement_cost_by most (Insert head keys body) state = most body state + keys_cost head keys (answers head.terms body state) state
statement_cost_by most (Delete head body) state = most body state
statement_cost_by most (Replace gone come keys body) state = most body state + most body state + keys_cost come keys (answers come.terms body state) state
statement_cost_by most (Require some body) state = whole_cost body state
statement_cost_by most (Print terms kinds body) state = most body state

abbrev pub cost_on_by : (Body → State → ℕ) → Option Stmt → State → ℕ
cost_on_by most None state = 0
cost_on_by most (Some stmt) state = statement_cost_by most stmt state

-- the moves that the first n statements may take, each on the state before it
abbrev pub cost_of_first_by : (Body → State → ℕ) → ℕ → List Stmt → State → ℕ
cost_of_first_by most zero program state = 0
cost_of_first_by most (suc n) program state = cost_of_first_by most n program state + cost_on_by most (slice_get program n) (state_before n program state)
