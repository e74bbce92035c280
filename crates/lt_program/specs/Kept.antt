-- What a statement does, by its outcome alone.
use Rattle.std.specs.Prelude.{ℕ, Bool, true, false, not, if◌then◌else◌, List, []}
use Rattle.lt_face.specs.Rows.{IsAscending}
use Rattle.lt_face.specs.State.{Row}
use Rattle.lt_model.specs.declared.normal.Stmt.{Stmt}
use Rattle.lt_model.specs.declared.normal.Stmt.TheVariants.{Insert, Delete, Replace, Require, Print}
use Rattle.lt_model.specs.Effect.{Effect, Writes, Requires, Prints, Clashes, marks_on, displacing, has_clash}
use Rattle.lt_model.specs.Marks.{Marks, and_then}
use Rattle.lt_program.specs.Displacing.{HaveOneWidth}
use Rattle.lt_program.specs.declared.part.Found.{Found}
use Rattle.lt_program.specs.declared.part.Found.TheVariants.{Rows, Both, Keyed, Truth}

-- the answers of the one head, or of the one whose rows go
abbrev pub first_rows : Found → List Row
first_rows (Rows rows) = rows
first_rows (Both gone come) = gone
first_rows (Keyed gone come displaced) = gone
first_rows (Truth truth) = []

-- the answers of the head whose rows come
abbrev pub second_rows : Found → List Row
second_rows (Rows rows) = []
second_rows (Both gone come) = come
second_rows (Keyed gone come displaced) = come
second_rows (Truth truth) = []

-- the rows that these displace
abbrev pub displaced_rows : Found → List Row
displaced_rows (Rows rows) = []
displaced_rows (Both gone come) = []
displaced_rows (Keyed gone come displaced) = displaced
displaced_rows (Truth truth) = []

abbrev pub truth_in : Found → Bool
truth_in (Rows rows) = false
truth_in (Both gone come) = false
truth_in (Keyed gone come displaced) = false
truth_in (Truth truth) = truth

-- the rows ascend, and those that come are of one width
pub record IsOrdered (outcome : Found) : Type 0 where
  pub first : IsAscending (first_rows outcome)
  pub second : IsAscending (second_rows outcome)
  pub displaced : IsAscending (displaced_rows outcome)
  pub even : HaveOneWidth (second_rows outcome)

-- whether the rows come into a relation with value columns
abbrev pub is_keyed : Found → Bool
is_keyed (Rows rows) = false
is_keyed (Both gone come) = false
is_keyed (Keyed gone come displaced) = true
is_keyed (Truth truth) = false

-- whether two of them have one key
abbrev pub clashes_in : ℕ → Found → Bool
clashes_in keys (Rows rows) = false
clashes_in keys (Both gone come) = false
clashes_in keys (Keyed gone come displaced) = has_clash keys come
clashes_in keys (Truth truth) = false

-- the marks of the head of an `insert`
abbrev pub inserted_by : ℕ → Found → Marks
inserted_by relation outcome = if is_keyed outcome then displacing relation (displaced_rows outcome) (second_rows outcome) else marks_on relation true (first_rows outcome)

-- the marks of the head of a `replace` whose rows come
abbrev pub replaced_by : ℕ → Found → Marks
replaced_by relation outcome = if is_keyed outcome then displacing relation (displaced_rows outcome) (second_rows outcome) else marks_on relation true (second_rows outcome)

-- the marks that the statement writes
abbrev pub written_by : Stmt → Found → Marks
written_by (Insert head keys body) outcome = inserted_by head.relation outcome
written_by (Delete head body) outcome = marks_on head.relation false (first_rows outcome)
written_by (Replace gone come keys body) outcome = and_then (marks_on gone.relation false (first_rows outcome)) (replaced_by come.relation outcome)
written_by (Require some body) outcome = []
written_by (Print terms kinds body) outcome = []

-- whether it is a requirement that isn't met, or two of its rows have one key
abbrev pub refused_by : Stmt → Found → Bool
refused_by (Insert head keys body) outcome = clashes_in keys outcome
refused_by (Delete head body) outcome = false
refused_by (Replace gone come keys body) outcome = clashes_in keys outcome
refused_by (Require some body) outcome = if some then not (truth_in outcome) else truth_in outcome
refused_by (Print terms kinds body) outcome = false

-- the marks after it, of those before it
abbrev pub marks_past : Stmt → Found → Marks → Marks
marks_past stmt outcome before = if refused_by stmt outcome then [] else and_then before (written_by stmt outcome)

-- the effect of a statement whose rows come into a relation
abbrev pub coming_by : Stmt → Found → Effect
coming_by stmt outcome = if refused_by stmt outcome then Clashes else Writes (written_by stmt outcome)

-- its effect
abbrev pub effect_by : Stmt → Found → Effect
effect_by (Insert head keys body) outcome = coming_by (Insert head keys body) outcome
effect_by (Delete head body) outcome = Writes (written_by (Delete head body) outcome)
effect_by (Replace gone come keys body) outcome = coming_by (Replace gone come keys body) outcome
effect_by (Require some body) outcome = Requires (not (refused_by (Require some body) outcome))
effect_by (Print terms kinds body) outcome = Prints kinds (first_rows outcome)
