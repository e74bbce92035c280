-- What a search of a set finds is one of its rows.
use Rattle.std.proofs.Common.{◌≡◌, true, List, Option, Some, None, IfSome, Bor, sym}
use Rattle.std.specs.Option.{option_copied}
use Rattle.lt_face.specs.Rows.{has_row, first_from}
use Rattle.lt_face.specs.State.{Row}
use Rattle.lt_over.proofs.Firsts.{from_has}

pub found_in : (rows : List Row) (from : Row) (o : Option (Bor Row)) → option_copied o ≡ first_from rows from → IfSome o (λ row. has_row rows row.now ≡ true)
found_in rows from None h = tt
found_in rows from (Some row) h = from_has rows from row.now (sym h)
