-- Relations with one row for a key.
use Rattle.std.specs.Prelude.{◌≡◌, ℕ, List, take}
use Rattle.lt_face.specs.Lists.{IsIn}
use Rattle.lt_face.specs.State.{Row, State, rows_in}
use Rattle.lt_model.specs.declared.normal.Stmt.{Stmt}
use Rattle.lt_model.specs.declared.normal.Stmt.TheVariants.{Insert, Delete, Replace, Require, Print}
use Rattle.lt_model.specs.Schema.{Schema}
use Rattle.lt_model.specs.Report.{heading_of}

-- how many key columns a relation has, by number
abbrev pub Keys : Type 0
Keys = ℕ → ℕ

-- those of a schema's relations
abbrev pub keys_in : Schema → Keys
keys_in schema relation = (heading_of schema relation).2

-- no two rows have the same cells in their key columns
abbrev pub HasOneForKey : ℕ → List Row → Type 0
HasOneForKey keys rows = (a b : Row) → IsIn a rows → IsIn b rows → take keys a ≡ take keys b → a ≡ b

-- each relation has one row for a key at most; where all columns are key columns that says nothing
abbrev pub IsKeyed : Keys → State → Type 0
IsKeyed keys state = (relation : ℕ) → HasOneForKey (keys relation) (rows_in state relation)

-- rows come into a relation by its own keys
abbrev pub InsertsBy : Keys → Stmt → Type 0
InsertsBy keys (Insert head count body) = count ≡ keys head.relation
InsertsBy keys (Delete head body) = Unit {0}
InsertsBy keys (Replace gone come count body) = count ≡ keys come.relation
InsertsBy keys (Require some body) = Unit {0}
InsertsBy keys (Print terms kinds body) = Unit {0}
