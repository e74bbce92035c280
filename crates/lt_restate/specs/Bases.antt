-- Two bases of the same relations, and the rows that these can have.
use Rattle.std.specs.Prelude.{◌≡◌, ℕ, List, map, length}
use Rattle.std.specs.List.{AllByRecursion}
use Rattle.lt_face.specs.Rows.{IsCell}
use Rattle.lt_face.specs.State.{Row, Relation, State}
use Rattle.lt_model.specs.Fits.{IsWide}
use Rattle.lt_model.specs.State.{IsState}
use Rattle.lt_query.specs.Runnable.{AreWide}

-- the widths of a state's relations
abbrev pub widths : State → List ℕ
widths state = map (λ (relation : Relation). relation.width) state

-- its relations are sets of rows with 1 to 8 cells
pub record IsBase (state : State) : Type 0 where
  pub is_state : IsState state
  pub wide : AreWide state

-- the one is so, and the other has the same relations
pub record AreAlike (old new : State) : Type 0 where
  pub base : IsBase old
  pub is_state : IsState new
  pub relations : widths new ≡ widths old

-- the relation is there, and can have the row
pub record IsRowOf (state : State) (relation : ℕ) (row : Row) : Type 0 where
  pub is_wide : IsWide state relation (length row)
  pub has_cells : AllByRecursion IsCell row

abbrev pub AreRowsOf : State → List (ℕ × Row) → Type 0
AreRowsOf state changes = AllByRecursion (λ (change : ℕ × Row). IsRowOf state change.0 change.1) changes
