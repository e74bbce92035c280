-- Marks on rows of cells.
use Rattle.std.proofs.Common.{ℕ, Bool, List, [], ◌∷◌, map}
use Rattle.std.specs.List.{AllByRecursion}
use Rattle.lt_face.specs.Rows.{IsCell}
use Rattle.lt_face.specs.State.{Row}
use Rattle.lt_program.specs.Effect.{HaveCells}

pub HaveCells-map : (relation : ℕ) (plus : Bool) (rows : List Row) → AllByRecursion (AllByRecursion IsCell) rows → HaveCells (map (λ row. record { relation = relation; row = row; plus = plus }) rows)
HaveCells-map relation plus [] all = tt
HaveCells-map relation plus (row ∷ rows) all = (all.0, HaveCells-map relation plus rows all.1)
