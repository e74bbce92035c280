-- A reader for each production.
use Rattle.std.specs.Prelude.{Bool, true, false, ◌||◌, ◌-◌, cond, List, [], ◌∷◌, Option, Some, None, nat_lt, codes, ◌⊎◌}
use Rattle.lt_face.specs.Limits.{most_columns, most_literals, most_programs, most_statements}
use mathlib.Core.Logic.{inl, inr}
use Rattle.lt_reading.specs.Reading.{Reader, next_is, one, always, in_table, both, led, ended, between, choice, maybe, many, at_once, listed, trailed, closed, given}
use Rattle.lt_model.specs.Tokens.{Shape, word, number, symbol, sign}
use Rattle.lt_model.specs.Grammar.{where_word, left_paren, right_paren, comma, semicolon, arrow, digits_value}
use Rattle.lt_grammar.specs.Tokens.{Text, same_shape, is_reserved, relation_word, batch_word, program_word, end_word, commit_word, show_word, at_word, insert_word, delete_word, replace_word, by_word, require_word, some_word, none_word, print_word, int_word, sym_word, not_word, equals, plus, minus}
use Rattle.lt_model.specs.declared.kind.Kind.{Kind}
use Rattle.lt_model.specs.declared.kind.Kind.TheVariants.{Int, Sym}
use Rattle.lt_model.specs.declared.syntax.Op.{Op}
use Rattle.lt_model.specs.declared.syntax.Op.TheVariants.{Eq, Ne, Lt, Le, Gt, Ge}
use Rattle.lt_grammar.specs.Grammar.{Term, name, numeral, quoted, Head, Literal, atom, absent, compare, sum, Statement, insert, delete, replace, require, print, Program, Item, relation, batch, show, past, few_names}

-- whether this token stands next
abbrev pub stands : Shape → List Shape → Bool
stands s ts = next_is (λ t. same_shape t s) ts

-- ---- names, numbers, symbols

abbrev pub is_word : Shape → Bool
is_word (word x) = true
is_word (number x) = false
is_word (symbol x) = false
is_word (sign x) = false

abbrev pub is_number : Shape → Bool
is_number (word x) = false
is_number (number x) = true
is_number (symbol x) = false
is_number (sign x) = false

abbrev pub name_of : Shape → Option Text
name_of (word x) = cond (is_reserved x) None (Some x)
name_of (number x) = None
name_of (symbol x) = None
name_of (sign x) = None

abbrev pub digits_of : Shape → Option Text
digits_of (word x) = None
digits_of (number x) = Some x
digits_of (symbol x) = None
digits_of (sign x) = None

abbrev pub quoted_of : Shape → Option Text
quoted_of (word x) = None
quoted_of (number x) = None
quoted_of (symbol x) = Some x
quoted_of (sign x) = None

abbrev pub name_at : Reader Shape Text
name_at = one name_of always

-- whether it stands before a minus says how far its range goes
abbrev pub number_at : Bool → Reader Shape Text
number_at m = one digits_of (λ digits. nat_lt (digits_value digits) (past m))

abbrev pub quoted_at : Reader Shape Text
quoted_at = one quoted_of always

-- ---- terms

abbrev pub constant_of : Text ⊎ (Text ⊎ Text) → Term
constant_of (inl digits) = numeral true digits
constant_of (inr (inl digits)) = numeral false digits
constant_of (inr (inr text)) = quoted text

abbrev pub term_of : Text ⊎ Term → Term
term_of (inl text) = name text
term_of (inr c) = c

abbrev pub is_minus : Shape → Bool
is_minus t = same_shape t minus

-- a term that is no name
unfoldable pub constant_at : Reader Shape Term
constant_at = given constant_of (choice is_minus (led same_shape minus (number_at true)) (choice is_number (number_at false) quoted_at))

unfoldable pub term_at : Reader Shape Term
term_at = given term_of (choice is_word name_at constant_at)

-- whether a term may begin so
abbrev pub starts_term : Shape → Bool
starts_term (word x) = cond (is_reserved x) false true
starts_term (number x) = true
starts_term (symbol x) = true
starts_term (sign x) = same_shape (sign x) minus

unfoldable pub terms_at : Reader Shape (Term × List Term)
terms_at = between same_shape left_paren right_paren (listed same_shape comma starts_term term_at (most_columns - 1))

abbrev pub head_of : Text × (Term × List Term) → Head
head_of x = record { relation = x.0; first = x.1.0; others = x.1.1 }

unfoldable pub head_at : Reader Shape Head
head_at = given head_of (both name_at terms_at)

-- ---- literals

abbrev pub other_ops : List (Shape × Op)
other_ops = (sign (codes "!="), Ne) ∷ (sign (codes "<"), Lt) ∷ (sign (codes "<="), Le) ∷ (sign (codes ">"), Gt) ∷ (sign (codes ">="), Ge) ∷ []

abbrev pub all_ops : List (Shape × Op)
all_ops = (equals, Eq) ∷ other_ops

unfoldable pub other_op_at : Reader Shape Op
other_op_at = one (in_table same_shape other_ops) always

unfoldable pub op_at : Reader Shape Op
op_at = one (in_table same_shape all_ops) always

abbrev pub plus_table : List (Shape × Bool)
plus_table = (plus, false) ∷ (minus, true) ∷ []

unfoldable pub plus_at : Reader Shape Bool
plus_at = one (in_table same_shape plus_table) always

abbrev pub is_plus : Shape → Bool
is_plus t = same_shape t plus || same_shape t minus

abbrev pub is_left_paren : Shape → Bool
is_left_paren t = same_shape t left_paren

abbrev pub is_equals : Shape → Bool
is_equals t = same_shape t equals

-- what follows a name: arguments, an equation's right side, or another comparison
abbrev pub Rest : Type 0
Rest = (Term × List Term) ⊎ ((Term × Option (Bool × Term)) ⊎ (Op × Term))

unfoldable pub equation_at : Reader Shape (Term × Option (Bool × Term))
equation_at = led same_shape equals (both term_at (maybe is_plus (both plus_at term_at)))

unfoldable pub rest_at : Reader Shape Rest
rest_at = choice is_left_paren terms_at (choice is_equals equation_at (both other_op_at term_at))

abbrev pub equation_of : Text → Term → Option (Bool × Term) → Literal
equation_of v a None = compare (name v) Eq a
equation_of v a (Some b) = sum v a b.0 b.1

abbrev pub is_not : Shape → Bool
is_not t = same_shape t not_word

abbrev pub literal_of : Head ⊎ ((Text × Rest) ⊎ (Term × (Op × Term))) → Literal
literal_of (inl h) = absent h
literal_of (inr (inl (v, inl ts))) = atom (record { relation = v; first = ts.0; others = ts.1 })
literal_of (inr (inl (v, inr (inl (a, b))))) = equation_of v a b
literal_of (inr (inl (v, inr (inr (op, t))))) = compare (name v) op t
literal_of (inr (inr (c, (op, t)))) = compare c op t

unfoldable pub literal_at : Reader Shape Literal
literal_at = given literal_of (choice is_not (led same_shape not_word head_at) (choice is_word (both name_at rest_at) (both constant_at (both op_at term_at))))

-- whether a literal may begin so
abbrev pub starts_literal : Shape → Bool
starts_literal t = cond (is_not t) true (starts_term t)

unfoldable pub body_at : Reader Shape (Literal × List Literal)
body_at = listed same_shape comma starts_literal literal_at (most_literals - 1)

abbrev pub is_where : Shape → Bool
is_where t = same_shape t where_word

abbrev pub where_of : Option (Literal × List Literal) → List Literal
where_of None = []
where_of (Some ls) = ls.0 ∷ ls.1

unfoldable pub where_at : Reader Shape (List Literal)
where_at = given where_of (maybe is_where (led same_shape where_word body_at))

-- ---- statements

abbrev pub need_table : List (Shape × Bool)
need_table = (some_word, true) ∷ (none_word, false) ∷ []

unfoldable pub need_at : Reader Shape Bool
need_at = one (in_table same_shape need_table) always

abbrev pub is_insert : Shape → Bool
is_insert t = same_shape t insert_word

abbrev pub is_delete : Shape → Bool
is_delete t = same_shape t delete_word

abbrev pub is_replace : Shape → Bool
is_replace t = same_shape t replace_word

abbrev pub is_require : Shape → Bool
is_require t = same_shape t require_word

abbrev pub Form : Type 0
Form = (Head × List Literal) ⊎ ((Head × List Literal) ⊎ ((Head × (Head × List Literal)) ⊎ ((Bool × (Literal × List Literal)) ⊎ ((Term × List Term) × (Literal × List Literal)))))

abbrev pub form_of : Form → Statement
form_of (inl x) = insert x.0 x.1
form_of (inr (inl x)) = delete x.0 x.1
form_of (inr (inr (inl x))) = replace x.0 x.1.0 x.1.1
form_of (inr (inr (inr (inl x)))) = require x.0 x.1.0 x.1.1
form_of (inr (inr (inr (inr x)))) = print x.0.0 x.0.1 x.1.0 x.1.1

unfoldable pub insert_at : Reader Shape (Head × List Literal)
insert_at = led same_shape insert_word (both head_at where_at)

unfoldable pub delete_at : Reader Shape (Head × List Literal)
delete_at = led same_shape delete_word (both head_at where_at)

unfoldable pub replace_at : Reader Shape (Head × (Head × List Literal))
replace_at = led same_shape replace_word (both (ended same_shape by_word head_at) (both head_at where_at))

unfoldable pub require_at : Reader Shape (Bool × (Literal × List Literal))
require_at = led same_shape require_word (both need_at body_at)

unfoldable pub print_at : Reader Shape ((Term × List Term) × (Literal × List Literal))
print_at = led same_shape print_word (both terms_at (led same_shape where_word body_at))

unfoldable pub form_at : Reader Shape Statement
form_at = given form_of (choice is_insert insert_at (choice is_delete delete_at (choice is_replace replace_at (choice is_require require_at print_at))))

-- up to the semicolon, where the variables are counted
unfoldable pub statement_at : Reader Shape Statement
statement_at = closed (λ t. same_shape t semicolon) few_names form_at

abbrev pub starts_statement : Shape → Bool
starts_statement t = same_shape t insert_word || (same_shape t delete_word || (same_shape t replace_word || (same_shape t require_word || same_shape t print_word)))

-- ---- programs and items

abbrev pub program_of : Text × List Statement → Program
program_of x = record { name = x.0; statements = x.1 }

unfoldable pub program_at : Reader Shape Program
program_at = given program_of (led same_shape program_word (both name_at (ended same_shape semicolon (ended same_shape end_word (many starts_statement statement_at at_once most_statements)))))

abbrev pub is_program : Shape → Bool
is_program t = same_shape t program_word

abbrev pub kind_table : List (Shape × Kind)
kind_table = (int_word, Int) ∷ (sym_word, Sym) ∷ []

unfoldable pub kind_at : Reader Shape Kind
kind_at = one (in_table same_shape kind_table) always

abbrev pub starts_kind : Shape → Bool
starts_kind t = same_shape t int_word || same_shape t sym_word

-- the key columns, and the value columns behind an arrow
unfoldable pub columns_at : Reader Shape ((Kind × List Kind) × List Kind)
columns_at = trailed same_shape arrow comma starts_kind kind_at (most_columns - 1)

unfoldable pub relation_at : Reader Shape (Text × ((Kind × List Kind) × List Kind))
relation_at = led same_shape relation_word (both name_at (ended same_shape semicolon (between same_shape left_paren right_paren columns_at)))

unfoldable pub batch_at : Reader Shape (List Program)
batch_at = led same_shape batch_word (ended same_shape semicolon (ended same_shape commit_word (many is_program program_at at_once most_programs)))

abbrev pub is_at : Shape → Bool
is_at t = same_shape t at_word

unfoldable pub show_at : Reader Shape (Text × Option Text)
show_at = led same_shape show_word (both name_at (ended same_shape semicolon (maybe is_at (led same_shape at_word (number_at false)))))

abbrev pub is_relation : Shape → Bool
is_relation t = same_shape t relation_word

abbrev pub is_batch : Shape → Bool
is_batch t = same_shape t batch_word

abbrev pub item_of : (Text × ((Kind × List Kind) × List Kind)) ⊎ (List Program ⊎ (Text × Option Text)) → Item
item_of (inl x) = relation x.0 x.1.0.0 x.1.0.1 x.1.1
item_of (inr (inl ps)) = batch ps
item_of (inr (inr x)) = show x.0 x.1

unfoldable pub item_at : Reader Shape Item
item_at = given item_of (choice is_relation relation_at (choice is_batch batch_at show_at))
