-- What a tally keeps of the run of a program.
use Rattle.std.specs.Prelude.{◌≡◌, ℕ, zero, suc, ◌+◌, ◌<◌, ◌≤◌, ◌==◌, ◌||◌, ◌&&◌, Bool, true, false, nat_lt, nat_le, if◌then◌else◌, List, [], ◌∷◌, ◌++◌, length, take, slice_get, Option, Some, None}
use Rattle.std.specs.List.{AllByRecursion, sum_by}
use Rattle.lt_face.specs.Limits.{most_columns}
use Rattle.lt_face.specs.State.{Row, State}
use Rattle.lt_model.specs.declared.normal.Term.{Term}
use Rattle.lt_model.specs.declared.normal.Atom.{Atom}
use Rattle.lt_model.specs.declared.normal.Body.{Body}
use Rattle.lt_model.specs.declared.normal.Stmt.{Stmt}
use Rattle.lt_model.specs.declared.normal.Stmt.TheVariants.{Insert, Delete, Replace, Require, Print}
use Rattle.lt_model.specs.declared.reply.Printed.{Printed}
use Rattle.lt_model.specs.declared.reply.Reply.{Reply}
use Rattle.lt_model.specs.declared.reply.Reply.TheVariants.{Done, Refused}
use Rattle.lt_model.specs.Answers.{answers, some_answer}
use Rattle.lt_model.specs.Marks.{Marks, AreMarks, and_then, laid}
use Rattle.lt_model.specs.Effect.{Effect, has_clash, key_terms, key_body, displaced, is_plain, effect}
use Rattle.lt_model.specs.Run.{run, run_on}
use Rattle.lt_base.specs.Tables.{Table, state_of, has_index}
use Rattle.lt_query.specs.declared.plans.Guide.{Guide}
use Rattle.lt_query.specs.Lists.{below}
use Rattle.lt_query.specs.Needs.{body_of}
use Rattle.lt_query.specs.Stated.{stated_plan}
use Rattle.lt_sense.specs.Kept.{Sense}
use Rattle.lt_sense.specs.Sense.{IsTight}
use Rattle.lt_join.specs.Certify.{Certifies, Vouches}
use Rattle.lt_join.specs.Cost.{bound}
use Rattle.lt_sense.specs.Cut.{cut}
use Rattle.lt_join.specs.Mended.{AreSlicesOn, AreMended}
use Rattle.lt_join.specs.MendedPlan.{mending_cost}
use Rattle.lt_join.specs.Sliced.{united}
use Rattle.lt_program.specs.declared.course.Course.{Course}
use Rattle.lt_program.specs.declared.course.Laid.{Laid}
use Rattle.lt_program.specs.declared.part.Found.{Found}
use Rattle.lt_program.specs.declared.part.Found.TheVariants.{Rows, Both, Keyed, Truth}
use Rattle.lt_program.specs.Part.{Part}

-- ---- one statement

-- the rows whose keys are looked up: none where all columns are key columns, and none where two of them have one key
abbrev pub looked_up : Atom → ℕ → List Row → List Row
looked_up head keys rows = if is_plain head keys then [] else (if has_clash keys rows then [] else rows)

-- rows that come into a relation with value columns, those that go before them, and those that they displace
abbrev pub keyed_on : Atom → ℕ → List Row → List Row → State → Found
keyed_on head keys gone come state = Keyed gone come (displaced head.relation keys state (looked_up head keys come))

-- what the evaluation of a statement on a state gives
abbrev pub outcome_on : Stmt → State → Found
outcome_on (Insert head keys body) state = if is_plain head keys then Rows (answers head.terms body state) else keyed_on head keys [] (answers head.terms body state) state
outcome_on (Delete head body) state = Rows (answers head.terms body state)
outcome_on (Replace gone come keys body) state =
    if is_plain come keys then Both (answers gone.terms body state) (answers come.terms body state)
    else keyed_on come keys (answers gone.terms body state) (answers come.terms body state) state
outcome_on (Require some body) state = Truth (some_answer body state)
outcome_on (Print terms kinds body) state = Rows (answers terms body state)

-- the sense stands for what was looked up by the keys of rows
abbrev pub CertifiesKeys : Sense → Atom → ℕ → List Row → State → Type 0
CertifiesKeys sense head keys rows state = AllByRecursion (λ row. Certifies sense (key_body head.relation keys row) state) (looked_up head keys rows)

-- what the outcome was sensitive to, on this state
abbrev pub VouchesFor : Sense → Stmt → State → Type 0
VouchesFor sense (Insert head keys body) state = Certifies sense body state × CertifiesKeys sense head keys (answers head.terms body state) state
VouchesFor sense (Delete head body) state = Certifies sense body state
VouchesFor sense (Replace gone come keys body) state = Certifies sense body state × CertifiesKeys sense come keys (answers come.terms body state) state
VouchesFor sense (Require some body) state = Vouches sense body state
VouchesFor sense (Print terms kinds body) state = Certifies sense body state

-- ---- statements kept by slices

-- the plan of the body has a level
abbrev pub has_level : Body → Bool
has_level body = nat_lt 0 (length (stated_plan body).levels)

-- whether the statement is kept by slices of its body: not a requirement, nor a `replace` whose heads' cells have no room in
-- one row, nor one whose rows come into a relation with value columns
abbrev pub is_sliced : Stmt → Bool
is_sliced (Insert head keys body) = is_plain head keys && has_level body
is_sliced (Delete head body) = has_level body
is_sliced (Replace gone come keys body) = is_plain come keys && (has_level body && nat_le (length gone.terms + length come.terms) most_columns)
is_sliced (Require some body) = false
is_sliced (Print terms kinds body) = has_level body

-- the terms that its slices answer: the head's, of a `replace` those of both heads, one after the other
abbrev pub slice_terms : Stmt → List Term
slice_terms (Insert head keys body) = head.terms
slice_terms (Delete head body) = head.terms
slice_terms (Replace gone come keys body) = gone.terms ++ come.terms
slice_terms (Require some body) = []
slice_terms (Print terms kinds body) = terms

-- there is a statement, and it is kept by slices
abbrev pub is_sliced_at : Option Stmt → Bool
is_sliced_at None = false
is_sliced_at (Some stmt) = is_sliced stmt

-- what a part was sensitive to: its slices together with its root gaps, and without slices the sense that it keeps
abbrev pub sense_of : Part → Sense
sense_of part = united part.sense part.slices

-- the part keeps one sense, and no slices
pub record IsWhole (part : Part) : Type 0 where
  pub by_key : part.by_key ≡ false
  pub slices : part.slices ≡ []

-- of a statement kept by slices the part has the root gaps and the slices of its body, and of any other no slices
pub record IsKeptAs (stmt : Stmt) (state : State) (part : Part) : Type 0 where
  pub by_key : part.by_key ≡ is_sliced stmt
  pub by_slices : is_sliced stmt ≡ true → AreSlicesOn (slice_terms stmt) (body_of stmt) (stated_plan (body_of stmt)) state part.sense part.slices
  pub whole : is_sliced stmt ≡ false → part.slices ≡ []

-- the part is the old one mended at the keys: the root gaps are cut there, and slices of other keys stay as they were
pub record IsMendedPart (keys : List ℕ) (old new : Part) : Type 0 where
  pub root : new.sense ≡ cut keys old.sense
  pub slices : AreMended keys old.slices new.slices

-- ---- parts

-- the part is the statement's on this state
pub record IsPartOn (stmt : Stmt) (state : State) (part : Part) : Type 0 where
  pub outcome : part.outcome ≡ outcome_on stmt state
  pub vouches : VouchesFor (sense_of part) stmt state
  pub tight : IsTight (sense_of part) state
  pub sliced : IsKeptAs stmt state part

-- so many moves the look-ups by the keys of rows may take: of each row one, and one for each row of the state with its key
abbrev pub keys_cost : Atom → ℕ → List Row → State → ℕ
keys_cost head keys rows state = sum_by (λ row. 1 + length (answers (key_terms keys row) (key_body head.relation keys row) state)) (looked_up head keys rows)

-- so many moves its evaluation may take: what the join of its body may take, of a `replace` once for each head, and the look-ups
-- by the keys of the rows that come
abbrev pub statement_cost : Stmt → State → ℕ
statement_cost (Insert head keys body) state = bound body (stated_plan body) state + keys_cost head keys (answers head.terms body state) state
statement_cost (Replace gone come keys body) state = bound body (stated_plan body) state + bound body (stated_plan body) state + keys_cost come keys (answers come.terms body state) state
statement_cost stmt state = bound (body_of stmt) (stated_plan (body_of stmt)) state

-- ---- the statements of a program

-- the reply and the marks of the first n statements
abbrev pub run_of_first : ℕ → List Stmt → State → Reply × Marks
run_of_first n program state = run (take n program) state

-- the state before the statement with j before it: their marks are laid on it
abbrev pub state_before : ℕ → List Stmt → State → State
state_before j program state = laid state (run_of_first j program state).1

abbrev pub is_refused : Reply → Bool
is_refused (Done prints) = false
is_refused (Refused j) = true

abbrev pub cost_on : Option Stmt → State → ℕ
cost_on None state = 0
cost_on (Some stmt) state = statement_cost stmt state

-- so many moves the mending of a statement kept by slices may take: what the joins of the keys' slices may take
abbrev pub mending_on : List ℕ → Option Stmt → State → ℕ
mending_on keys None state = 0
mending_on keys (Some stmt) state = mending_cost keys (body_of stmt) (stated_plan (body_of stmt)) state

-- the moves that the first n statements may take, each on the state before it
abbrev pub cost_of_first : ℕ → List Stmt → State → ℕ
cost_of_first zero program state = 0
cost_of_first (suc n) program state = cost_of_first n program state + cost_on (slice_get program n) (state_before n program state)

-- how many statements are evaluated before the program ends: from one on, where so many are left
abbrev pub ends_from : ℕ → ℕ → List Stmt → State → ℕ
ends_from zero j program state = j
ends_from (suc left) j program state = if is_refused (run_of_first j program state).0 then j else ends_from left (j + 1) program state

abbrev pub ends_at : List Stmt → State → ℕ
ends_at program state = ends_from (length program) 0 program state

-- the database has each index through which the plan of the body goes
abbrev pub HasIndexesOf : List Table → Body → Type 0
HasIndexesOf tables body =
    AllByRecursion (λ (guide : Guide). has_index tables guide.relation guide.columns ≡ true) (stated_plan body).guides
    × AllByRecursion (λ (atom : Atom). has_index tables atom.relation (below (length atom.terms)) ≡ true) body.absents

-- the database has each index that the plans of the program need
abbrev pub HasIndexes : List Table → List Stmt → Type 0
HasIndexes tables program = AllByRecursion (λ stmt. HasIndexesOf tables (body_of stmt)) program

-- ---- tallies

-- the program, the database that it runs on, a part for each statement evaluated, and what these answered and wrote
pub record TallyView : Type 0 where
  pub program : List Stmt
  pub base : List Table
  pub parts : List Part
  pub reply : Reply
  pub marks : Marks

-- every statement was evaluated, or one was a false requirement or a clash
abbrev pub has_ended : TallyView → Bool
has_ended t = is_refused t.reply || length t.parts == length t.program

-- the next statement is kept by slices
abbrev pub is_next_sliced : TallyView → Bool
is_next_sliced t = is_sliced_at (slice_get t.program (length t.parts))

-- each part is its statement's, on the state before it
abbrev pub ArePartsOf : TallyView → Type 0
ArePartsOf t =
    (j : ℕ) (stmt : Stmt) (part : Part) → slice_get t.program j ≡ Some stmt → slice_get t.parts j ≡ Some part →
    IsPartOn stmt (state_before j t.program (state_of t.base)) part

-- The tally is the run of the statements evaluated. Only the last of them can be a false requirement or a clash.
pub record IsRun (t : TallyView) : Type 0 where
  pub evaluated : length t.parts ≤ length t.program
  pub reply : t.reply ≡ (run_of_first (length t.parts) t.program (state_of t.base)).0
  pub marks : t.marks ≡ (run_of_first (length t.parts) t.program (state_of t.base)).1
  pub parts : ArePartsOf t
  pub went_on : (j : ℕ) → j < length t.parts → is_refused (run_of_first j t.program (state_of t.base)).0 ≡ false

-- ---- one more statement

-- a statement of this number has this effect, after these replies and marks
abbrev pub next : ℕ → Effect → Reply × Marks → Reply × Marks
next number e (Done prints, marks) = run_on number (record { marks = marks; prints = prints }) e (λ p. (Done p.prints, p.marks))
next number e (Refused j, marks) = (Refused j, marks)

-- the reply with one more printed list, unless the program was refused
abbrev pub with_print : Reply → Printed → Reply
with_print (Done prints) printed = Done (prints ++ printed ∷ [])
with_print (Refused j) printed = Refused j

-- the database with the marks laid on it, and its indexes
pub record IsLaidOn (base : List Table) (marks : Marks) (tables : List Table) : Type 0 where
  pub state : state_of tables ≡ laid (state_of base) marks
  pub indexes : (relation : ℕ) (columns : List ℕ) → has_index tables relation columns ≡ has_index base relation columns

-- the marks that came later, if any did
abbrev pub those : Option Marks → Marks
those None = []
those (Some marks) = marks

-- the first of the marks are laid, and the others came later
pub record IsLaidUpTo (base : List Table) (marks : Marks) (l : Laid) : Type 0 where
  pub first : Marks
  pub on : IsLaidOn base first l.tables
  pub joined : marks ≡ and_then first (those l.later)
  pub first_up : AreMarks first
  pub later_up : AreMarks (those l.later)

abbrev pub IsLaid : List Table → Marks → Option Laid → Type 0
IsLaid base marks None = Unit {0}
IsLaid base marks (Some l) = IsLaidUpTo base marks l

-- one more part, and what comes of the statement's effect
pub record Grows (number : ℕ) (stmt : Stmt) (base : State) (old new : Course) : Type 0 where
  pub part : Part
  pub is_part : IsPartOn stmt (laid base old.marks) part
  pub parts : new.parts ≡ old.parts ++ part ∷ []
  pub reply : new.reply ≡ (next number (effect stmt (laid base old.marks)) (old.reply, old.marks)).0
  pub marks : new.marks ≡ (next number (effect stmt (laid base old.marks)) (old.reply, old.marks)).1

-- the tally with one more statement evaluated
pub record IsOneMore (old new : TallyView) : Type 0 where
  pub program : new.program ≡ old.program
  pub base : new.base ≡ old.base
  pub part : Part
  pub parts : new.parts ≡ old.parts ++ part ∷ []
  pub run : IsRun new
