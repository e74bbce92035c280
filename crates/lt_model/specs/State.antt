-- What a state of the database keeps. States themselves stand with the rows.
use Rattle.std.specs.List.{AllByRecursion}
use Rattle.lt_face.specs.Rows.{IsRowSet}
use Rattle.lt_face.specs.State.{State, Relation}

-- each relation's rows ascend strictly, and are as wide as it
abbrev pub IsState : State → Type 0
IsState state = AllByRecursion (λ (relation : Relation). IsRowSet relation.width relation.rows) state
