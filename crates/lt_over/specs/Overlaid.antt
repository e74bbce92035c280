-- Rows with others laid over them: some are taken out, and then some put in.
use Rattle.std.specs.Prelude.{◌≡◌, ◌++◌, Bool, false, ◌&&◌, not, List, fold, Option, Some, None, if◌then◌else◌}
use Rattle.std.specs.Ordering.{is_lt}
use Rattle.lt_face.specs.Rows.{row_cmp, has_row, with_row}
use Rattle.lt_face.specs.State.{Row}
use Rattle.lt_flat.specs.Flat.{kept}

-- the rows without some, and then with some
abbrev pub overlaid : List Row → List Row → List Row → List Row
overlaid base gone come = fold with_row (kept base gone) come

-- the row stands in base, and isn't taken out
abbrev pub stays : List Row → List Row → Row → Bool
stays base gone row = has_row base row && not (has_row gone row)

-- the lesser of two rows
abbrev pub lesser : Option Row → Option Row → Option Row
lesser None b = b
lesser (Some x) None = Some x
lesser (Some x) (Some y) = if is_lt (row_cmp y x) then Some y else Some x

-- the row is at least the other, where there is another
abbrev pub is_reached : Option Row → Row → Bool
is_reached None row = false
is_reached (Some put) row = not (is_lt (row_cmp row put))

-- rows that others begin with
pub record IsFront (rows front : List Row) : Type 0 where
  pub rest : List Row
  pub whole : rows ≡ front ++ rest
