-- Marks whose relations have headings.
use Rattle.std.specs.Prelude.{◌<◌, length}
use Rattle.lt_face.specs.Rows.{IsRow}
use Rattle.lt_model.specs.declared.mark.Mark.{Mark}
use Rattle.lt_model.specs.Report.{heading_of}
use Rattle.lt_model.specs.Schema.{Schema}

-- the mark's relation is there, and its row has a cell for each column
pub record IsHeaded (headings : Schema) (mark : Mark) : Type 0 where
  pub there : mark.relation < length headings
  pub row : IsRow (length (heading_of headings mark.relation).1) mark.row
