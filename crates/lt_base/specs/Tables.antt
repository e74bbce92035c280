-- What a database is seen as.
use Rattle.std.specs.Prelude.{◌≤◌, ℕ, zero, suc, Bool, false, ◌||◌, List, [], ◌∷◌, map}
use Rattle.std.specs.List.{list_any}
use Rattle.lt_face.specs.Limits.{most_columns}
use Rattle.lt_face.specs.Rows.{IsRowSet}
use Rattle.lt_face.specs.State.{Row, Relation, State, row_eq}
use Rattle.lt_delta.specs.Columns.{numbers}

-- a relation's width and rows, and the columns of its indexes besides the one in their own order
pub record Table : Type 0 where
  pub width : ℕ
  pub rows : List Row
  pub others : List (List ℕ)

-- the rows ascend strictly, and are as wide as the relation, which has 1 to 8 columns
pub record IsTable (table : Table) : Type 0 where
  pub is_set : IsRowSet table.width table.rows
  pub some : 1 ≤ table.width
  pub few : table.width ≤ most_columns

abbrev pub relation_of : Table → Relation
relation_of table = record { width = table.width; rows = table.rows }

-- the relations of a database
abbrev pub state_of : List Table → State
state_of tables = map relation_of tables

-- the relation has an index with its columns in this order
abbrev pub has_columns : Table → List ℕ → Bool
has_columns table columns = row_eq columns (numbers 0 table.width) || list_any (row_eq columns) table.others

abbrev pub has_index : List Table → ℕ → List ℕ → Bool
has_index [] relation columns = false
has_index (table ∷ tables) zero columns = has_columns table columns
has_index (table ∷ tables) (suc relation) columns = has_index tables relation columns
