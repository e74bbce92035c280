-- Rows that one state has and another hasn't.
use Rattle.std.specs.Prelude.{ℕ, Bool, not, if◌then◌else◌}
use Rattle.lt_face.specs.Rows.{has_row}
use Rattle.lt_face.specs.State.{Row, State, rows_in}

-- whether one of the states has the row of the relation and the other hasn't
abbrev pub differ_on : State → State → ℕ → Row → Bool
differ_on s t relation row = if has_row (rows_in s relation) row then not (has_row (rows_in t relation) row) else has_row (rows_in t relation) row
