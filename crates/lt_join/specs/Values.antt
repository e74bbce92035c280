-- What the variables of a body are known to be.
use Rattle.std.specs.Prelude.{ℕ, ◌==◌, if◌then◌else◌, List, Option, Some, None, unwrap_or, slice_index_or}
use Rattle.std.specs.List.{AllByRecursion}
use Rattle.lt_face.specs.Limits.{most_variables}
use Rattle.lt_model.specs.declared.normal.Test.{Test}
use Rattle.lt_model.specs.Answers.{Assignment, Values}
use Rattle.lt_model.specs.Fits.{IsTermOf, test_terms}

-- the values that a list has by the variables' numbers
abbrev pub values_in : List (Option ℕ) → Values
values_in cells v = slice_index_or cells v None

-- 0 for a variable without a value
abbrev pub assigned : Values → Assignment
assigned values v = unwrap_or (values v) 0

abbrev pub with_value : Values → ℕ → ℕ → Values
with_value values v x u = if u == v then Some x else values u

-- a literal that is no atom: its variables' numbers are below 16, and its constants are cells
abbrev pub IsTest : Test → Type 0
IsTest test = AllByRecursion (IsTermOf most_variables) (test_terms test)
