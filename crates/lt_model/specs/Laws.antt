-- Laws that tie the definitions to plain words. Each is proved in `proofs/`.
use Rattle.std.specs.Prelude.{◌≡◌, ◌≢◌, ℕ, ◌^◌, ◌<◌, ◌==◌, ◌&&◌, Bool, true, List, [], ◌∷◌, ◌++◌, length, Option, Some, None, unwrap_or, if◌then◌else◌}
use Rattle.std.specs.List.{AllByRecursion}
use Rattle.std.specs.Ordering.{is_eq}
use Rattle.lt_face.specs.Rows.{row_cmp, has_row, IsAscending}
use Rattle.lt_model.specs.declared.kind.Kind.{Kind}
use Rattle.lt_model.specs.declared.normal.Stmt.{Stmt}
use Rattle.lt_model.specs.declared.syntax.Item.{Item}
use Rattle.lt_model.specs.declared.syntax.Statement.{Statement}
use Rattle.lt_model.specs.declared.syntax.Term.{Term}
use Rattle.lt_model.specs.Bound.{is_known, is_bound}
use Rattle.lt_model.specs.Tokens.{Shape}
use Rattle.lt_model.specs.Grammar.{Level, legal, Derives}
use Rattle.lt_model.specs.Faults.{IsOpen, Faulty, NoFault}
use Rattle.lt_model.specs.Script.{Script, Close}
use Rattle.lt_model.specs.Schema.{Schema}
use Rattle.lt_model.specs.Variables.{variables, body_of}
use Rattle.lt_model.specs.Within.{IsStatementWithin}
use Rattle.lt_model.specs.Check.{choice_fits, choice_for, kind_of, term, normal_body, code_of, normal}
use Rattle.lt_model.specs.Forms.{on_statement, on_stmt, filled, filled_stmt, cells_of, numbered, IsFormOf}
use Rattle.lt_face.specs.State.{Row, Relation, State, rows_in}
use Rattle.lt_model.specs.Marks.{Marks, AreMarks, and_then, laid}
use Rattle.lt_model.specs.Serial.{serial}
use Rattle.lt_model.specs.Report.{report}

-- tokens are the spelling of one list of items at most
abbrev pub OneDerivation : Type 0
OneDerivation = (level : Level) (ts : List Shape) (xs ys : List Item) → Derives level ts xs → Derives level ts ys → xs ≡ ys

-- a token has one fault at most
abbrev pub OneFault : Type 0
OneFault = (before : List Shape) (t : Shape) (c d : ℕ) → Faulty before t c → Faulty before t d → c ≡ d

-- what begins a legal script has no fault
abbrev pub NoFaultAhead : Type 0
NoFaultAhead = (ts : List Shape) → IsOpen legal ts → NoFault ts

-- bytes have one reading at most
abbrev pub OneReading : Type 0
OneReading = (bytes : List ℕ) (xs ys : List Item) (c d : Close) → Script bytes xs c → Script bytes ys d → (xs ≡ ys) × (c ≡ d)

-- so they have one report
abbrev pub OneReport : Type 0
OneReport = (bytes : List ℕ) (marks : Bool) (xs ys : List Item) (c d : Close) → Script bytes xs c → Script bytes ys d → report marks xs c ≡ report marks ys d

-- code 22 comes exactly where no choice of one kind per variable fits
abbrev pub SomeChoice : Type 0
SomeChoice = (schema : Schema) (s : Statement) (choice : List Kind) → length choice ≡ length (variables s) → choice_fits schema s choice ≡ true → choice_for schema s ≢ None

abbrev pub FoundChoice : Type 0
FoundChoice = (schema : Schema) (s : Statement) (choice : List Kind) → choice_for schema s ≡ Some choice → choice_fits schema s choice ≡ true

-- a bound term has one kind in all choices that fit
abbrev pub KindsDetermined : Type 0
KindsDetermined = (schema : Schema) (s : Statement) (c d : List Kind) (t : Term) → choice_fits schema s c ≡ true → choice_fits schema s d ≡ true → is_known (is_bound (normal_body schema (variables s) (body_of s))) (term (variables s) t) ≡ true → kind_of (variables s) c t ≡ kind_of (variables s) d t

-- the sign of the last mark on a row, if there is one
abbrev pub later : Option Bool → Option Bool → Option Bool
later (Some plus) earlier = Some plus
later None earlier = earlier

abbrev pub mark_on : Marks → ℕ → Row → Option Bool
mark_on [] relation row = None
mark_on (m ∷ marks) relation row = later (mark_on marks relation row) (if m.relation == relation && is_eq (row_cmp m.row row) then Some m.plus else None)

-- a laid state has a row where the marks have + on it, or where the state has it and no mark is on it
abbrev pub LaidHas : Type 0
LaidHas = (state : State) (marks : Marks) (relation : ℕ) (row : Row) → relation < length state → has_row (rows_in (laid state marks) relation) row ≡ unwrap_or (mark_on marks relation row) (has_row (rows_in state relation) row)

-- the rows of each relation ascend
abbrev pub Rises : State → Type 0
Rises state = AllByRecursion (λ (relation : Relation). IsAscending relation.rows) state

-- laying a and then b is laying `a then b`
abbrev pub LaidTwice : Type 0
LaidTwice = (state : State) (a b : Marks) → Rises state → AreMarks a → laid (laid state a) b ≡ laid state (and_then a b)

-- programs after programs: the later ones run on what the earlier ones left
abbrev pub SerialJoins : Type 0
SerialJoins = (a b : List (List Stmt)) (state : State) → serial (a ++ b) state ≡ ((serial a state).0 ++ (serial b (serial a state).1).0, (serial b (serial a state).1).1)

-- a statement with other constants has the same code
abbrev pub CodeStays : Type 0
CodeStays = (schema : Schema) (s : Statement) (f : ℕ → ℕ) → code_of schema (on_statement f s) ≡ code_of schema s

-- and its normal form is that of the first with these constants
abbrev pub NormalFollows : Type 0
NormalFollows = (schema : Schema) (s : Statement) (f : ℕ → ℕ) → normal schema (on_statement f s) ≡ on_stmt f (normal schema s)

-- so a form that is good stays good with whatever constants, and its normal form is filled with these
abbrev pub FormsStayGood : Type 0
FormsStayGood =
    (schema : Schema) (s : Statement) (cells : List ℕ) → code_of schema s ≡ None →
    (code_of schema (filled s cells) ≡ None) × (normal schema (filled s cells) ≡ filled_stmt (normal schema s) cells)

-- a statement is its form with its own constants
abbrev pub FormsFill : Type 0
FormsFill = (s : Statement) → filled (numbered s) (cells_of s) ≡ s

-- a text has one form at most
abbrev pub OneForm : Type 0
OneForm = (text : List ℕ) (a b : Statement) → IsFormOf text a → IsFormOf text b → a ≡ b

-- the form of a statement within the limits is within them, as its numbers are cells
abbrev pub NumbersWithin : Type 0
NumbersWithin = (s : Statement) → IsStatementWithin s → length (cells_of s) < 2 ^ 120 → IsStatementWithin (numbered s)
