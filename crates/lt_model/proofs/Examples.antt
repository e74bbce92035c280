-- Worked examples of variables, answers, states with marks on them, effects, runs and limits.
use Rattle.std.proofs.Common.{refl, arith}
use Rattle.std.specs.Prelude.{◌≡◌, ℕ, ◌+◌, ◌*◌, ◌^◌, Bool, true, false, List, [], ◌∷◌, codes, Some, None}
use Rattle.std.specs.Fmt.{digits}
use Rattle.lt_face.specs.State.{Row, State}
use Rattle.lt_model.specs.declared.kind.Kind.TheVariants.{Int, Sym}
use Rattle.lt_model.specs.declared.mark.Mark.{Mark}
use Rattle.lt_model.specs.declared.normal.Term.TheVariants.{Var, Cell}
use Rattle.lt_model.specs.declared.normal.Atom.{Atom}
use Rattle.lt_model.specs.declared.normal.Test.TheVariants.{Cmp, Sum}
use Rattle.lt_model.specs.declared.normal.Body.{Body}
use Rattle.lt_model.specs.declared.normal.Stmt.{Stmt}
use Rattle.lt_model.specs.declared.normal.Stmt.TheVariants.{Insert, Delete, Replace, Require, Print}
use Rattle.lt_model.specs.declared.reply.Reply.TheVariants.{Done, Refused}
use Rattle.lt_model.specs.declared.syntax.Op.TheVariants.{Gt}
use Rattle.lt_model.specs.declared.syntax.Literal.TheVariants as literals
use Rattle.lt_model.specs.declared.syntax.Statement.{Statement}
use Rattle.lt_model.specs.declared.syntax.Statement.TheVariants as statements
use Rattle.lt_model.specs.Cells.{zero_cell, last_int, is_cell, sym_cell, sym_text, cell_text, sum_of}
use Rattle.lt_model.specs.Grammar.{signed_cell}
use Rattle.lt_model.specs.State.{IsState}
use Rattle.lt_model.specs.Schema.{Schema, number_of, columns_of, keys_of}
use Rattle.lt_model.specs.Variables.{variables, place_of}
use Rattle.lt_model.specs.Check.{Bad, checked, choice_for}
use Rattle.lt_model.specs.Marks.{AreMarks, and_then, laid}
use Rattle.lt_model.specs.Laws.{mark_on}
use Rattle.lt_model.specs.Answers.{assignment_of, answers, some_answer, picks}
use Rattle.lt_model.specs.Bound.{is_bound, are_bound}
use Rattle.lt_model.specs.Effect.{Writes, Requires, Prints, Clashes, effect}
use Rattle.lt_model.specs.Run.{run}
use Rattle.lt_model.specs.Serial.{serial}
use Rattle.lt_model.specs.Fits.{IsAtomOf, FitMarks}
use Rattle.lt_model.specs.Limits.{IsStatementWithin, IsWithinLimits}
use Rattle.lt_model.specs.Plain.{IsPlain, IsPlainScript}
use Rattle.lt_model.proofs.Samples as s
use Rattle.lt_model.proofs.Scripts.{two_inserts}

-- ---- cells

-- 2^63
abbrev half : ℕ
half = 9223372036854775808

cell_of_zero : signed_cell false 0 ≡ zero_cell
cell_of_zero = refl

-- 0 with a minus is 0
cell_of_minus_zero : signed_cell true 0 ≡ zero_cell
cell_of_minus_zero = refl

cell_of_least : signed_cell true half ≡ 1
cell_of_least = refl

cell_of_greatest : signed_cell false 9223372036854775807 ≡ last_int
cell_of_greatest = refl

text_of_least : cell_text Int 1 ≡ codes "-9223372036854775808"
unfolding digits
text_of_least = refl

text_of_a : sym_text (97 * 256 ^ 14) ≡ codes "a"
text_of_a = refl

-- 0 is no cell, nor is 2^120
least_cell : (is_cell 0 ≡ false) × (is_cell 1 ≡ true)
least_cell = (refl, refl)

greatest_cell : (is_cell (sym_cell (codes "zzzzzzzzzzzzzzz")) ≡ true) × (is_cell (2 ^ 120) ≡ false)
greatest_cell = (refl, refl)

-- ---- sums

-- the cell of n
abbrev int : ℕ → ℕ
int n = zero_cell + n

two_and_three : sum_of false (int 2) (int 3) ≡ Some (int 5)
two_and_three = refl

five_less_three : sum_of true (int 5) (int 3) ≡ Some (int 2)
five_less_three = refl

zero_less_one : sum_of true (int 0) (int 1) ≡ Some (signed_cell true 1)
zero_less_one = refl

reaches_greatest : sum_of false (int 9223372036854775806) (int 1) ≡ Some last_int
reaches_greatest = refl

-- -2^63 has no counterpart
least_from_zero : sum_of true (int 0) 1 ≡ None
least_from_zero = refl

-- ---- relations and variables of a program as it is written

abbrev schema : Schema
schema = (codes "r", Int ∷ [], 1) ∷ (codes "e", Int ∷ Sym ∷ [], 1) ∷ []

numbers : (number_of schema (codes "r") ≡ Some 0) × (number_of schema (codes "e") ≡ Some 1) × (number_of schema (codes "s") ≡ None)
numbers = (refl, refl, refl)

columns : (columns_of schema (codes "e") ≡ Int ∷ Sym ∷ []) × (columns_of schema (codes "s") ≡ [])
columns = (refl, refl)

keys : (keys_of schema (codes "e") ≡ 1) × (keys_of schema (codes "s") ≡ 0)
keys = (refl, refl)

-- insert r(m) where r(n), m = n + 1;
abbrev next_of_each : Statement
next_of_each = statements.Insert (s.on (codes "r") (s.var (codes "m") ∷ [])) (literals.Atom (s.on (codes "r") (s.var (codes "n") ∷ [])) ∷ literals.Sum (codes "m") (s.var (codes "n")) false (s.int 1) ∷ [])

-- the head comes first
two_variables : variables next_of_each ≡ codes "m" ∷ codes "n" ∷ []
two_variables = refl

second_place : place_of (variables next_of_each) (codes "n") ≡ 1
second_place = refl

both_int : choice_for schema next_of_each ≡ Some (Int ∷ Int ∷ [])
both_int = refl

-- print (x) where e(x, x); asks for one kind where the columns have two
abbrev int_and_sym : Statement
int_and_sym = statements.Print (s.var (codes "x") ∷ []) (s.edge (codes "x") (codes "x") ∷ [])

-- the second statement has the code
bad_at_two : checked (s.program (codes "p") (next_of_each ∷ int_and_sym ∷ [])) schema ≡ Bad 22 2
bad_at_two = refl

-- ---- bodies

-- r(x0), x1 = x0 + 1
abbrev next_body : Body
next_body = record { atoms = record { relation = 0; terms = Var 0 ∷ [] } ∷ []; absents = []; tests = Sum 1 (Var 0) false (Cell (int 1)) ∷ []; vars = 2 }

-- r has these rows of one int, and e these of two
abbrev state_of : List Row → List Row → State
state_of r e = record { width = 1; rows = r } ∷ record { width = 2; rows = e } ∷ []

-- e(x0, x0)
abbrev loop_body : Body
loop_body = record { atoms = record { relation = 1; terms = Var 0 ∷ Var 0 ∷ [] } ∷ []; absents = []; tests = []; vars = 1 }

-- r(x0), r(x1), x0 > x1
abbrev pairs_body : Body
pairs_body = record { atoms = record { relation = 0; terms = Var 0 ∷ [] } ∷ record { relation = 0; terms = Var 1 ∷ [] } ∷ []; absents = []; tests = Cmp (Var 0) Gt (Var 1) ∷ []; vars = 2 }

-- r(c)
abbrev there_body : ℕ → Body
there_body c = record { atoms = record { relation = 0; terms = Cell c ∷ [] } ∷ []; absents = []; tests = []; vars = 0 }

abbrev no_body : Body
no_body = record { atoms = []; absents = []; tests = []; vars = 0 }

-- ---- which variables are bound

atom_binds : is_bound next_body 0 ≡ true
atom_binds = refl

sum_binds : is_bound next_body 1 ≡ true
sum_binds = refl

nothing_binds : is_bound next_body 2 ≡ false
nothing_binds = refl

-- other comparisons bind nothing
above_binds_nothing : are_bound (record { atoms = []; absents = []; tests = Cmp (Var 0) Gt (Cell (int 1)) ∷ []; vars = 1 }) (Var 0 ∷ []) ≡ false
above_binds_nothing = refl

-- ---- answers

all_picks : picks pairs_body.atoms (state_of ((3 ∷ []) ∷ (7 ∷ []) ∷ []) []) ≡ ((3 ∷ []) ∷ (3 ∷ []) ∷ []) ∷ ((3 ∷ []) ∷ (7 ∷ []) ∷ []) ∷ ((7 ∷ []) ∷ (3 ∷ []) ∷ []) ∷ ((7 ∷ []) ∷ (7 ∷ []) ∷ []) ∷ []
all_picks = refl

-- x0 has the cell of the pick, and x1 what the sum gives
assigned : (assignment_of next_body ((int 4 ∷ []) ∷ []) 0 ≡ int 4) × (assignment_of next_body ((int 4 ∷ []) ∷ []) 1 ≡ int 5)
assigned = (refl, refl)

one_pair : answers (Var 1 ∷ Var 0 ∷ []) pairs_body (state_of ((3 ∷ []) ∷ (7 ∷ []) ∷ []) []) ≡ (3 ∷ 7 ∷ []) ∷ []
one_pair = refl

repeated_variable : answers (Var 0 ∷ []) loop_body (state_of [] ((3 ∷ 3 ∷ []) ∷ (3 ∷ 4 ∷ []) ∷ (5 ∷ 5 ∷ []) ∷ [])) ≡ (3 ∷ []) ∷ (5 ∷ []) ∷ []
repeated_variable = refl

next_answers : answers (Var 0 ∷ Var 1 ∷ []) next_body (state_of ((int 4 ∷ []) ∷ (last_int ∷ []) ∷ []) []) ≡ (int 4 ∷ int 5 ∷ []) ∷ []
next_answers = refl

-- ascending, and each once
sorted_answers : answers (Cell 9 ∷ Var 1 ∷ []) (record { atoms = record { relation = 1; terms = Var 0 ∷ Var 1 ∷ [] } ∷ []; absents = []; tests = []; vars = 2 }) (state_of [] ((1 ∷ 8 ∷ []) ∷ (2 ∷ 6 ∷ []) ∷ (3 ∷ 8 ∷ []) ∷ [])) ≡ (9 ∷ 6 ∷ []) ∷ (9 ∷ 8 ∷ []) ∷ []
sorted_answers = refl

-- a body with no literals holds once
empty_body : answers (Cell 5 ∷ []) no_body [] ≡ (5 ∷ []) ∷ []
empty_body = refl

no_loop : some_answer loop_body (state_of [] ((3 ∷ 4 ∷ []) ∷ [])) ≡ false
no_loop = refl

some_loop : some_answer loop_body (state_of [] ((3 ∷ 4 ∷ []) ∷ (5 ∷ 5 ∷ []) ∷ [])) ≡ true
some_loop = refl

-- ---- marks

-- of r
abbrev plus : ℕ → Mark
plus c = record { relation = 0; row = c ∷ []; plus = true }

abbrev minus : ℕ → Mark
minus c = record { relation = 0; row = c ∷ []; plus = false }

in_row_order : and_then (plus 2 ∷ plus 4 ∷ []) (minus 1 ∷ plus 3 ∷ []) ≡ minus 1 ∷ plus 2 ∷ plus 3 ∷ plus 4 ∷ []
in_row_order = refl

are_marks : AreMarks (minus 1 ∷ plus 2 ∷ [])
are_marks = ((refl, tt), (tt, tt))

-- a row that is there is not added again, and one that isn't there is not missed
laid_marks : laid (state_of ((1 ∷ []) ∷ (3 ∷ []) ∷ []) []) (minus 1 ∷ plus 2 ∷ plus 3 ∷ minus 4 ∷ []) ≡ state_of ((2 ∷ []) ∷ (3 ∷ []) ∷ []) []
laid_marks = refl

-- there is no relation 7
laid_nowhere : laid (state_of ((1 ∷ []) ∷ []) []) (record { relation = 7; row = 2 ∷ []; plus = true } ∷ []) ≡ state_of ((1 ∷ []) ∷ []) []
laid_nowhere = refl

last_mark : mark_on (minus 1 ∷ plus 1 ∷ minus 2 ∷ []) 0 (1 ∷ []) ≡ Some true
last_mark = refl

no_mark : mark_on (minus 1 ∷ plus 1 ∷ minus 2 ∷ []) 0 (3 ∷ []) ≡ None
no_mark = refl

-- ---- what statements do

-- r of this cell
abbrev r_cell : ℕ → Atom
r_cell c = record { relation = 0; terms = Cell c ∷ [] }

-- r of this variable
abbrev r_var : ℕ → Atom
r_var v = record { relation = 0; terms = Var v ∷ [] }

-- replace r(x0) by r(x1) where r(x0), x1 = x0 + 1;
abbrev count_up : Stmt
count_up = Replace (r_var 0) (r_var 1) 1 next_body

-- the row of 5 goes as an old one and comes as a new one: it comes
replaced : effect count_up (state_of ((int 4 ∷ []) ∷ (int 5 ∷ []) ∷ []) []) ≡ Writes (minus (int 4) ∷ plus (int 5) ∷ plus (int 6) ∷ [])
replaced = refl

-- also where the row is not there
deleted : effect (Delete (r_cell 9) no_body) (state_of [] []) ≡ Writes (minus 9 ∷ [])
deleted = refl

-- also where the row is there
inserted : effect (Insert (r_cell 9) 1 no_body) (state_of ((9 ∷ []) ∷ []) []) ≡ Writes (plus 9 ∷ [])
inserted = refl

-- f has a key column, the first: other rows of the key go
abbrev f_row : ℕ → ℕ → Atom
f_row k v = record { relation = 1; terms = Cell k ∷ Cell v ∷ [] }

abbrev f_mark : Bool → ℕ → ℕ → Mark
f_mark plus k v = record { relation = 1; row = k ∷ v ∷ []; plus = plus }

displaces : effect (Insert (f_row 3 8) 1 no_body) (state_of [] ((2 ∷ 5 ∷ []) ∷ (3 ∷ 5 ∷ []) ∷ (3 ∷ 9 ∷ []) ∷ (4 ∷ 5 ∷ []) ∷ [])) ≡ Writes (f_mark false 3 5 ∷ f_mark true 3 8 ∷ f_mark false 3 9 ∷ [])
displaces = refl

-- the row itself doesn't
displaces_nothing : effect (Insert (f_row 3 8) 1 no_body) (state_of [] ((3 ∷ 8 ∷ []) ∷ [])) ≡ Writes (f_mark true 3 8 ∷ [])
displaces_nothing = refl

-- f(x0, x1) by its other column
abbrev turned_body : Body
turned_body = record { atoms = record { relation = 1; terms = Var 0 ∷ Var 1 ∷ [] } ∷ []; absents = []; tests = []; vars = 2 }

abbrev turned : Atom
turned = record { relation = 1; terms = Var 1 ∷ Var 0 ∷ [] }

-- two answers with one key
clashes : effect (Insert turned 1 turned_body) (state_of [] ((3 ∷ 5 ∷ []) ∷ (4 ∷ 5 ∷ []) ∷ [])) ≡ Clashes
clashes = refl

-- where all columns are keys there is nothing to clash
plain_insert : effect (Insert turned 2 turned_body) (state_of [] ((3 ∷ 5 ∷ []) ∷ (4 ∷ 5 ∷ []) ∷ [])) ≡ Writes (f_mark true 5 3 ∷ f_mark true 5 4 ∷ [])
plain_insert = refl

-- the rows that go, those displaced, and then those that come
replaced_with_key : effect (Replace (f_row 7 7) (f_row 3 8) 1 no_body) (state_of [] ((3 ∷ 5 ∷ []) ∷ [])) ≡ Writes (f_mark false 3 5 ∷ f_mark true 3 8 ∷ f_mark false 7 7 ∷ [])
replaced_with_key = refl

needed : (effect (Require true (there_body 9)) (state_of ((9 ∷ []) ∷ []) []) ≡ Requires true) × (effect (Require false (there_body 9)) (state_of ((9 ∷ []) ∷ []) []) ≡ Requires false)
needed = (refl, refl)

printed : effect (Print (Var 0 ∷ []) (Int ∷ []) loop_body) (state_of [] ((3 ∷ 3 ∷ []) ∷ [])) ≡ Prints (Int ∷ []) ((3 ∷ []) ∷ [])
printed = refl

-- ---- runs

-- insert r(2); require some r(2); print (x0) where e(x0, x0);
abbrev passing : List Stmt
passing = Insert (r_cell 2) 1 no_body ∷ Require true (there_body 2) ∷ Print (Var 0 ∷ []) (Int ∷ []) loop_body ∷ []

-- a statement sees what those before it wrote
done : run passing (state_of [] ((3 ∷ 3 ∷ []) ∷ [])) ≡ (Done (record { statement = 3; kinds = Int ∷ []; rows = (3 ∷ []) ∷ [] } ∷ []), plus 2 ∷ [])
done = refl

-- insert r(2); require none r(2); insert r(3);
abbrev failing : List Stmt
failing = Insert (r_cell 2) 1 no_body ∷ Require false (there_body 2) ∷ Insert (r_cell 3) 1 no_body ∷ []

refused_at_two : run failing (state_of [] []) ≡ (Refused 2, [])
refused_at_two = refl

-- what came before the clash is given up
clash_at_two : run (Insert (r_cell 2) 1 no_body ∷ Insert turned 1 turned_body ∷ []) (state_of [] ((3 ∷ 5 ∷ []) ∷ (4 ∷ 5 ∷ []) ∷ [])) ≡ (Refused 2, [])
clash_at_two = refl

nothing_to_do : run [] (state_of [] []) ≡ (Done [], [])
nothing_to_do = refl

-- the first leaves r(2), the second is refused and leaves nothing, the third sees r(2) alone
one_after_another : serial ((Insert (r_cell 2) 1 no_body ∷ []) ∷ failing ∷ (Print (Var 0 ∷ []) (Int ∷ []) (record { atoms = r_var 0 ∷ []; absents = []; tests = []; vars = 1 }) ∷ []) ∷ []) (state_of [] []) ≡ ((Done [], plus 2 ∷ []) ∷ (Refused 2, []) ∷ (Done (record { statement = 1; kinds = Int ∷ []; rows = (2 ∷ []) ∷ [] } ∷ []), []) ∷ [], state_of ((2 ∷ []) ∷ []) [])
one_after_another = refl

delete_and_insert : serial ((Delete (r_cell 1) no_body ∷ []) ∷ (Insert (r_cell 1) 1 no_body ∷ []) ∷ []) (state_of ((1 ∷ []) ∷ []) []) ≡ ((Done [], minus 1 ∷ []) ∷ (Done [], plus 1 ∷ []) ∷ [], state_of ((1 ∷ []) ∷ []) [])
delete_and_insert = refl

-- ---- what fits a state

abbrev some_state : State
some_state = state_of ((int 4 ∷ []) ∷ []) []

is_state : IsState some_state
is_state = (
  record { rises = (tt, tt); each = (record { is_wide = refl; has_cells = ((omega arith, omega arith), tt) }, tt) },
  (record { rises = tt; each = tt }, tt),
)

-- e has two columns
too_narrow : IsAtomOf some_state 1 (record { relation = 1; terms = Var 0 ∷ [] }) → ⊥
too_narrow h = let wide = h.is_wide in absurd cc

marks_fit : FitMarks some_state (minus 1 ∷ plus 2 ∷ [])
marks_fit = (record { is_wide = refl; has_cells = ((omega arith, omega arith), tt) }, (record { is_wide = refl; has_cells = ((omega arith, omega arith), tt) }, tt))

-- ---- what the limits leave

next_within : IsStatementWithin next_of_each
next_within = record {
  heads = (record { some = omega arith; few = omega arith; cells = (tt, tt) }, tt);
  printed = tt;
  literals = (record { some = omega arith; few = omega arith; cells = (tt, tt) }, ((tt, (omega arith, omega arith)), tt));
  few_literals = omega arith;
  few_variables = omega arith;
}

two_columns_within : IsWithinLimits (s.relation2 (codes "e"))
two_columns_within = (omega arith, omega arith, omega arith, omega arith)

plain_item : IsPlain (s.relation2 (codes "e"))
plain_item = ((refl, (refl, tt)), refl)

-- relation r(int); a batch with one program of two inserts; show r;
plain_script : IsPlainScript (codes "relation r(int); batch program p insert r(2); insert r(1); end; commit; show r;") s.two_inserts
plain_script = record {
  read = two_inserts;
  plain = (((refl, tt), refl), (((((refl, tt), ((refl, tt), tt))), tt), (tt, tt)));
  accepted = ((refl, omega arith), ((tt, tt), ((refl, omega arith), tt)));
}
