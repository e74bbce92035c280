-- Values of variables that meet a row.
use Rattle.std.specs.Prelude.{ℕ, ◌==◌, if◌then◌else◌, List, [], ◌∷◌, Option, Some, None, option_and_then}
use Rattle.lt_face.specs.State.{Row}
use Rattle.lt_model.specs.declared.normal.Term.{Term}
use Rattle.lt_model.specs.declared.normal.Term.TheVariants.{Var, Cell}
use Rattle.lt_model.specs.Answers.{Values}
use Rattle.lt_join.specs.Values.{with_value}

-- the values where the variable has this cell, if it had no other
abbrev pub with_cell : Values → ℕ → ℕ → Option ℕ → Option Values
with_cell values v x None = Some (with_value values v x)
with_cell values v x (Some y) = if y == x then Some values else None

-- a cell met where the term stands
abbrev pub accept : Values → Term → ℕ → Option Values
accept values (Cell c) x = if c == x then Some values else None
accept values (Var v) x = with_cell values v x (values v)

-- the values once the terms have met a row, if they can
abbrev pub matched : Values → List Term → Row → Option Values
matched values [] [] = Some values
matched values [] (x ∷ xs) = None
matched values (t ∷ ts) [] = None
matched values (t ∷ ts) (x ∷ xs) = option_and_then (λ next. matched next ts xs) (accept values t x)
