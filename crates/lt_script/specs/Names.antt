-- The names of variables in a statement's values, in text order.
use Rattle.std.specs.Prelude.{ℕ, Bool, List, [], ◌∷◌, ◌++◌, length, fold, flat_map, nat_le}
use Rattle.lt_face.specs.Limits.{most_variables}
use Rattle.lt_model.specs.Variables.{with_name}
use Rattle.lt_model.specs.declared.syntax.Term.{Term}
use Rattle.lt_model.specs.declared.syntax.Term.TheVariants.{Name, Cell}
use Rattle.lt_model.specs.declared.syntax.Literal.{Literal}
use Rattle.lt_model.specs.declared.syntax.Literal.TheVariants.{Atom, Absent, Cmp, Sum}
use Rattle.lt_model.specs.declared.syntax.Statement.{Statement}
use Rattle.lt_model.specs.declared.syntax.Statement.TheVariants.{Insert, Delete, Replace, Require, Print}

abbrev pub term_names : Term → List (List ℕ)
term_names (Name text) = text ∷ []
term_names (Cell kind cell) = []

abbrev pub terms_names : List Term → List (List ℕ)
terms_names ts = flat_map term_names ts

abbrev pub literal_names : Literal → List (List ℕ)
literal_names (Atom h) = terms_names h.terms
literal_names (Absent h) = terms_names h.terms
literal_names (Cmp left op right) = term_names left ++ term_names right
literal_names (Sum v a m b) = v ∷ (term_names a ++ term_names b)

abbrev pub body_names : List Literal → List (List ℕ)
body_names ls = flat_map literal_names ls

abbrev pub statement_names : Statement → List (List ℕ)
statement_names (Insert h body) = terms_names h.terms ++ body_names body
statement_names (Delete h body) = terms_names h.terms ++ body_names body
statement_names (Replace gone come body) = terms_names gone.terms ++ (terms_names come.terms ++ body_names body)
statement_names (Require some body) = body_names body
statement_names (Print ts body) = terms_names ts ++ body_names body

-- at most sixteen variables
unfoldable pub few_variables : Statement → Bool
few_variables s = nat_le (length (fold with_name [] (statement_names s))) most_variables
