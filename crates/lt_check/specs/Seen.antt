-- What references point to, the variables of terms, and the columns of atoms.
use Rattle.std.specs.Prelude.{◌≡◌, ℕ, List, map, fold, filter_map}
use Rattle.std.specs.Borrow.{Bor}
use Rattle.lt_model.specs.declared.kind.Kind.{Kind}
use Rattle.lt_model.specs.declared.syntax.Head.{Head}
use Rattle.lt_model.specs.declared.syntax.Term.{Term}
use Rattle.lt_model.specs.Schema.{Schema, columns_of}
use Rattle.lt_model.specs.Variables.{with_name, variable_of}

-- values without where they lie in memory
abbrev pub seen : {X : Type 0} → List (Bor X) → List X
seen xs = map (λ x. x.now) xs

-- the names with those of terms, each once
abbrev pub with_variables : List (List ℕ) → List Term → List (List ℕ)
with_variables names terms = fold with_name names (filter_map variable_of terms)

-- the kinds of the columns of each atom's relation
abbrev pub HasColumns : Schema → List Head → List (List Kind) → Type 0
HasColumns schema atoms columns = columns ≡ map (λ (head : Head). columns_of schema head.relation) atoms
