-- How much there may be, each limit stated here alone.
use Rattle.std.specs.Prelude.{ℕ}

-- columns of a relation, arguments of an atom, printed terms
abbrev pub most_columns : ℕ
most_columns = 8

-- different variables of a statement
abbrev pub most_variables : ℕ
most_variables = 16

-- literals of a body
abbrev pub most_literals : ℕ
most_literals = 16

abbrev pub most_relations : ℕ
most_relations = 64

-- statements of a program
abbrev pub most_statements : ℕ
most_statements = 64

-- programs of a batch, and so leaves of a circuit
abbrev pub most_programs : ℕ
most_programs = 256

abbrev pub most_workers : ℕ
most_workers = 16
