-- Indexes of a relation's rows, and marks laid on them.
use Rattle.std.specs.Prelude.{◌≡◌, ℕ, Bool, List, map}
use Rattle.lt_face.specs.Rows.{IsAscending, IsRowSet}
use Rattle.lt_face.specs.State.{Row, permuted}
use Rattle.lt_model.specs.declared.mark.Mark.{Mark}
use Rattle.lt_model.specs.Marks.{Marks}
use Rattle.lt_delta.specs.declared.edits.Edits.{Edits}
use Rattle.lt_delta.specs.Columns.{IsPermuted}
use Rattle.lt_delta.specs.Laying.{rows_laid}
use Rattle.lt_over.specs.Edits.{edited}
use Rattle.lt_over.specs.Overlaid.{overlaid}
use Rattle.lt_base.specs.declared.index.Index.{Index}

-- an index of a relation of this width and these rows
pub record IsIndexed (width : ℕ) (rows : List Row) (index : Index) : Type 0 where
  pub wide : index.rows.width ≡ width
  pub same : IsPermuted width index.columns rows index.rows.rows

-- a mark on the row as an index has it
abbrev pub permuted_mark : List ℕ → Mark → Mark
permuted_mark columns m = record { relation = m.relation; row = permuted columns m.row; plus = m.plus }

-- the index with the marks of its relation laid on it
abbrev pub index_laid : ℕ → Marks → Index → Index
index_laid relation marks index = record index { rows = record { width = index.rows.width; rows = rows_laid relation index.rows.rows (map (permuted_mark index.columns) marks) } }

-- the index with a row of its relation put in, or taken out
abbrev pub index_edited : Row → Bool → Index → Index
index_edited row plus index = record index { rows = record { width = index.rows.width; rows = edited index.rows.rows (permuted index.columns row) plus } }

-- rows that go and rows that come, which are to an index on these columns what the marks are to its relation
pub record AreEditsIn (width : ℕ) (columns : List ℕ) (relation : ℕ) (marks : Marks) (edits : Edits) : Type 0 where
  pub gone : IsRowSet width edits.gone
  pub come : IsRowSet width edits.come
  pub laid : (rows : List Row) → IsAscending rows → overlaid rows edits.gone edits.come ≡ rows_laid relation rows (map (permuted_mark columns) marks)
