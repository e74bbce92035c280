-- What a walk knows of the variables where it is.
use Rattle.std.specs.Prelude.{◌≡◌, ◌<◌, ℕ, false, List, length, Some, None}
use Rattle.std.specs.List.{AllByRecursion}
use Rattle.lt_model.specs.Answers.{Values, term_value}
use Rattle.lt_model.specs.Bound.{is_var}
use Rattle.lt_query.specs.declared.plans.Level.{Level}
use Rattle.lt_query.specs.Plan.{term_at}
use Rattle.lt_join.specs.Walked.{at}

-- the term of each level above has its key as its value, and a variable of no level has none
pub record IsKnown (levels : List Level) (keys : List ℕ) (values : Values) : Type 0 where
  pub given : (l : ℕ) → l < length keys → term_value values (term_at levels l) ≡ Some (at keys l)
  pub others : (v : ℕ) → AllByRecursion (λ (level : Level). is_var v level.term ≡ false) levels → values v ≡ None
