-- The states that have the relations of a schema.
use Rattle.std.specs.Prelude.{◌≡◌, ℕ, ◌≤◌, List, length, map}
use Rattle.std.specs.List.{AllByRecursion}
use Rattle.lt_face.specs.State.{State, Relation}
use Rattle.lt_model.specs.declared.kind.Kind.{Kind}
use Rattle.lt_model.specs.Schema.{Schema}

-- the state has the schema's relations, each as wide
abbrev pub IsStateOf : Schema → State → Type 0
IsStateOf schema state = map (λ (r : Relation). r.width) state ≡ map (λ heading. length heading.1) schema

-- one column or more is a key column
abbrev pub HasKeyColumns : List ℕ × List Kind × ℕ → Type 0
HasKeyColumns heading = (1 ≤ heading.2) × (heading.2 ≤ length heading.1)

-- so it is with each relation of the schema
abbrev pub HaveKeyColumns : Schema → Type 0
HaveKeyColumns schema = AllByRecursion HasKeyColumns schema
