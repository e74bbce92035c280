-- Marks laid on the relations of a database.
use Rattle.std.specs.Prelude.{ℕ, ◌+◌, List, [], ◌∷◌}
use Rattle.lt_model.specs.Marks.{Marks}
use Rattle.lt_delta.specs.Laying.{rows_laid}
use Rattle.lt_base.specs.Tables.{Table}

abbrev pub table_laid : ℕ → Table → Marks → Table
table_laid number table marks = record { width = table.width; rows = rows_laid number table.rows marks; others = table.others }

-- relations, numbered from the first on
abbrev pub tables_laid : ℕ → List Table → Marks → List Table
tables_laid number [] marks = []
tables_laid number (table ∷ tables) marks = table_laid number table marks ∷ tables_laid (number + 1) tables marks
