-- The constant of a term.
use Rattle.std.specs.Prelude.{ℕ, Option, Some, None}
use Rattle.lt_model.specs.declared.kind.Kind.{Kind}
use Rattle.lt_model.specs.declared.syntax.Term.{Term}
use Rattle.lt_model.specs.declared.syntax.Term.TheVariants.{Name, Cell}

abbrev pub constant_in : Term → Option (Kind × ℕ)
constant_in (Name name) = None
constant_in (Cell kind cell) = Some (kind, cell)
