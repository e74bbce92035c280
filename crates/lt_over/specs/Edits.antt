-- One row put into a set, or taken out.
use Rattle.std.specs.Prelude.{Bool, not, List, if◌then◌else◌}
use Rattle.lt_face.specs.Rows.{has_row, with_row, without_row}
use Rattle.lt_face.specs.State.{Row}

-- the rows with this one in, or without it
abbrev pub edited : List Row → Row → Bool → List Row
edited rows row plus = if plus then with_row rows row else without_row rows row

-- whether that changes them
abbrev pub is_change : List Row → Row → Bool → Bool
is_change rows row plus = if plus then not (has_row rows row) else has_row rows row
