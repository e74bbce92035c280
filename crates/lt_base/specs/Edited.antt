-- One row put into a relation, or taken out.
use Rattle.std.specs.Prelude.{Bool}
use Rattle.lt_face.specs.State.{Row}
use Rattle.lt_over.specs.Edits.{edited}
use Rattle.lt_base.specs.Tables.{Table}

abbrev pub table_edited : Row → Bool → Table → Table
table_edited row plus table = record table { rows = edited table.rows row plus }
