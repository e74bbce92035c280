-- The report: a left fold over the items of a script.
use Rattle.std.specs.Prelude.{ℕ, ◌+◌, List, [], ◌∷◌, ◌++◌, length, map, zip, fold, flat_map, filter_map, codes, decimal, Bool, true, false, nat_lt, nat_le, if◌then◌else◌, Option, Some, None, unwrap_or, slice_index_or}
use Rattle.std.specs.List.{join_with_byte}
use Rattle.lt_face.specs.Limits.{most_relations}
use Rattle.lt_model.specs.declared.kind.Kind.{Kind}
use Rattle.lt_model.specs.declared.syntax.Program.{Program}
use Rattle.lt_model.specs.declared.syntax.Item.{Item}
use Rattle.lt_model.specs.declared.syntax.Item.TheVariants.{Relation, Batch, Show}
use Rattle.lt_model.specs.declared.normal.Stmt.{Stmt}
use Rattle.lt_model.specs.declared.mark.Mark.{Mark}
use Rattle.lt_model.specs.declared.reply.Printed.{Printed}
use Rattle.lt_model.specs.declared.reply.Reply.{Reply}
use Rattle.lt_model.specs.declared.reply.Reply.TheVariants.{Done, Refused}
use Rattle.lt_model.specs.Cells.{cell_text}
use Rattle.lt_face.specs.State.{Row, State, rows_in}
use Rattle.lt_model.specs.Marks.{Marks}
use Rattle.lt_model.specs.Schema.{Schema, number_of, columns_of}
use Rattle.lt_model.specs.Check.{Checked, Good, Bad, checked}
use Rattle.lt_model.specs.Serial.{serial}
use Rattle.lt_model.specs.Script.{Close, End, Fault}

abbrev pub Text : Type 0
Text = List ℕ

-- ---- lines

-- words with one space between them, and a line feed
abbrev pub line : List Text → Text
line words = join_with_byte 32 words ++ codes "\n"

abbrev pub cell_texts : List Kind → Row → List Text
cell_texts kinds row = map (λ cell. cell_text cell.0 cell.1) (zip kinds row)

abbrev pub rows_text : List Kind → List Row → Text
rows_text kinds rows = flat_map (λ row. line (cell_texts kinds row)) rows

abbrev pub print_text : Printed → Text
print_text p = line (codes "print" ∷ decimal p.statement ∷ decimal (length p.rows) ∷ []) ++ rows_text p.kinds p.rows

abbrev pub reply_text : Text → Reply → Text
reply_text name (Done prints) = line (name ∷ codes "done" ∷ []) ++ flat_map print_text prints
reply_text name (Refused j) = line (name ∷ codes "refused" ∷ decimal j ∷ [])

abbrev pub bad_program_text : Text → ℕ → ℕ → Text
bad_program_text name code j = line (name ∷ codes "bad" ∷ decimal code ∷ decimal j ∷ [])

abbrev pub sign_text : Bool → Text
sign_text true = codes "+"
sign_text false = codes "-"

abbrev pub heading_of : Schema → ℕ → Text × List Kind × ℕ
heading_of schema relation = slice_index_or schema relation ([], [], 0)

abbrev pub mark_text : Schema → Mark → Text
mark_text schema m = let heading = heading_of schema m.relation in line ((sign_text m.plus ∷ heading.0 ∷ []) ++ cell_texts heading.1 m.row)

abbrev pub marks_text : Schema → Marks → Text
marks_text schema marks = flat_map (mark_text schema) marks

abbrev pub at_words : Option ℕ → List Text
at_words None = []
at_words (Some version) = codes "at" ∷ decimal version ∷ []

abbrev pub show_text : Text → Option ℕ → List Kind → List Row → Text
show_text name version kinds rows = line ((codes "show" ∷ name ∷ []) ++ at_words version ++ decimal (length rows) ∷ []) ++ rows_text kinds rows

abbrev pub batch_text : ℕ → Text
batch_text number = line (codes "batch" ∷ decimal number ∷ [])

abbrev pub version_text : ℕ → Text
version_text number = line (codes "version" ∷ decimal number ∷ [])

abbrev pub bad_text : ℕ → Text
bad_text code = line (codes "bad" ∷ decimal code ∷ [])

abbrev pub close_text : Close → Text
close_text End = []
close_text (Fault at code) = line (codes "fault" ∷ decimal at ∷ decimal code ∷ [])

abbrev pub usage_text : Text
usage_text = codes "usage: lt_shell run [--workers N] [--marks] | lt_shell bench --seed S --items I --programs P [--workers N]\n"

-- ---- the fold

-- the relations, the state, the versions from 1 on, and what was written so far
pub record World : Type 0 where
  pub schema : Schema
  pub state : State
  pub versions : List State
  pub text : Text

abbrev pub opening : World
opening = record { schema = []; state = []; versions = []; text = [] }

abbrev pub says : World → Text → World
says w text = record w { text = w.text ++ text }

-- the state of a version; version 0 has no relations
abbrev pub at_version : World → Option ℕ → State
at_version w None = w.state
at_version w (Some version) = slice_index_or ([] ∷ w.versions) version []

abbrev pub with_relation : World → Text → List Kind → ℕ → Option ℕ → World
with_relation w name kinds keys (Some relation) = says w (bad_text 24)
with_relation w name kinds keys None =
    if nat_le most_relations (length w.schema) then says w (bad_text 25)
    else record w { schema = w.schema ++ (name, kinds, keys) ∷ []; state = w.state ++ record { width = length kinds; rows = [] } ∷ [] }

abbrev pub shown : World → Text → Option ℕ → Option ℕ → World
shown w name version None = says w (bad_text 20)
shown w name version (Some relation) =
    if nat_lt (length w.versions) (unwrap_or version 0) then says w (bad_text 26)
    else says w (show_text name version (columns_of w.schema name) (rows_in (at_version w version) relation))

abbrev pub good_of : Checked → Option (List Stmt)
good_of (Good program) = Some program
good_of (Bad code j) = None

-- the lines of the programs in batch order; those that aren't bad take their replies and marks from the list
abbrev pub programs_text : (Text → Reply × Marks → Text) → List (Text × Checked) → List (Reply × Marks) → Text
programs_text says_done [] replies = []
programs_text says_done ((name, Bad code j) ∷ programs) replies = bad_program_text name code j ++ programs_text says_done programs replies
programs_text says_done ((name, Good program) ∷ programs) [] = []
programs_text says_done ((name, Good program) ∷ programs) (reply ∷ replies) = says_done name reply ++ programs_text says_done programs replies

-- the reply of one program, and with `--marks` its marks
abbrev pub done_text : Bool → Schema → Text → Reply × Marks → Text
done_text marks schema name done = reply_text name done.0 ++ (if marks then marks_text schema done.1 else [])

abbrev pub with_batch : Bool → World → List Program → World
with_batch marks w programs =
    let number = length w.versions + 1 in
    let checks = map (λ (p : Program). (p.name, checked p w.schema)) programs in
    let done = serial (filter_map (λ check. good_of check.1) checks) w.state in
    says (record w { state = done.1; versions = w.versions ++ done.1 ∷ [] })
    (batch_text number ++ programs_text (done_text marks w.schema) checks done.0 ++ version_text number)

abbrev pub step : Bool → World → Item → World
step marks w (Relation name kinds keys) = with_relation w name kinds keys (number_of w.schema name)
step marks w (Batch programs) = with_batch marks w programs
step marks w (Show name version) = shown w name version (number_of w.schema name)

-- the report of a script with these items and this end, with or without marks
abbrev pub report : Bool → List Item → Close → Text
report marks items close = (fold (step marks) opening items).text ++ close_text close
