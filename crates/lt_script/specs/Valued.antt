-- A reader for each production that gives the item's own values in place of its tree.
use Rattle.std.specs.Prelude.{ℕ, ◌++◌, ◌-◌, Bool, true, false, List, [], ◌∷◌, length, Option, Some, None, ◌⊎◌}
use mathlib.Core.Logic.{inl, inr}
use Rattle.lt_face.specs.Limits.{most_columns, most_literals, most_programs, most_statements}
use Rattle.lt_reading.specs.Reading.{Reader, both, led, ended, between, choice, maybe, many, at_once, listed, closed, given}
use Rattle.lt_model.specs.Tokens.{Shape}
use Rattle.lt_model.specs.Cells.{sym_cell}
use Rattle.lt_model.specs.Grammar.{where_word, left_paren, right_paren, comma, semicolon, digits_value, signed_cell}
use Rattle.lt_model.specs.declared.kind.Kind.{Kind}
use Rattle.lt_model.specs.declared.kind.Kind.TheVariants.{Int, Sym}
use Rattle.lt_model.specs.declared.syntax.Op.{Op}
use Rattle.lt_model.specs.declared.syntax.Op.TheVariants.{Eq}
use Rattle.lt_model.specs.declared.syntax.Term.{Term}
use Rattle.lt_model.specs.declared.syntax.Term.TheVariants.{Name, Cell}
use Rattle.lt_model.specs.declared.syntax.Head.{Head}
use Rattle.lt_model.specs.declared.syntax.Literal.{Literal}
use Rattle.lt_model.specs.declared.syntax.Literal.TheVariants.{Atom, Absent, Cmp, Sum}
use Rattle.lt_model.specs.declared.syntax.Statement.{Statement}
use Rattle.lt_model.specs.declared.syntax.Statement.TheVariants.{Insert, Delete, Replace, Require, Print}
use Rattle.lt_model.specs.declared.syntax.Program.{Program}
use Rattle.lt_model.specs.declared.syntax.Item.{Item}
use Rattle.lt_model.specs.declared.syntax.Item.TheVariants.{Relation, Batch, Show}
use Rattle.lt_grammar.specs.Tokens.{Text, same_shape, batch_word, program_word, end_word, commit_word, show_word, at_word, insert_word, delete_word, replace_word, by_word, require_word, print_word, not_word, equals, minus}
use Rattle.lt_script.specs.Names.{few_variables}
use Rattle.lt_grammar.specs.Productions as tree
use Rattle.lt_grammar.specs.Productions.{name_at, quoted_at, is_word, is_number, is_minus, is_left_paren, is_equals, is_plus, is_not, is_where, is_insert, is_delete, is_replace, is_require, is_program, is_at, is_relation, is_batch, op_at, other_op_at, plus_at, need_at, relation_at, starts_term, starts_literal, starts_statement}

-- ---- terms

abbrev pub valued_number_at : Bool → Reader Shape ℕ
valued_number_at m = given digits_value (tree.number_at m)

-- a number behind a minus or without one
abbrev pub int_term : Bool → ℕ → Term
int_term minus n = Cell Int (signed_cell minus n)

abbrev pub symbol_term : Text → Term
symbol_term text = Cell Sym (sym_cell text)

abbrev pub constant_of : ℕ ⊎ (ℕ ⊎ Text) → Term
constant_of (inl n) = int_term true n
constant_of (inr (inl n)) = int_term false n
constant_of (inr (inr text)) = symbol_term text

unfoldable pub valued_constant_at : Reader Shape Term
valued_constant_at = given constant_of (choice is_minus (led same_shape minus (valued_number_at true)) (choice is_number (valued_number_at false) quoted_at))

abbrev pub term_of : Text ⊎ Term → Term
term_of (inl text) = Name text
term_of (inr c) = c

unfoldable pub valued_term_at : Reader Shape Term
valued_term_at = given term_of (choice is_word name_at valued_constant_at)

abbrev pub all_of : {A : Type 0} → A × List A → List A
all_of x = x.0 ∷ x.1

unfoldable pub valued_terms_at : Reader Shape (List Term)
valued_terms_at = given all_of (between same_shape left_paren right_paren (listed same_shape comma starts_term valued_term_at (most_columns - 1)))

abbrev pub head_of : Text × List Term → Head
head_of x = record { relation = x.0; terms = x.1 }

unfoldable pub valued_head_at : Reader Shape Head
valued_head_at = given head_of (both name_at valued_terms_at)

-- ---- literals

abbrev pub Rest : Type 0
Rest = List Term ⊎ ((Term × Option (Bool × Term)) ⊎ (Op × Term))

unfoldable pub valued_equation_at : Reader Shape (Term × Option (Bool × Term))
valued_equation_at = led same_shape equals (both valued_term_at (maybe is_plus (both plus_at valued_term_at)))

unfoldable pub valued_rest_at : Reader Shape Rest
valued_rest_at = choice is_left_paren valued_terms_at (choice is_equals valued_equation_at (both other_op_at valued_term_at))

abbrev pub equation_of : Text → Term → Option (Bool × Term) → Literal
equation_of v a None = Cmp (Name v) Eq a
equation_of v a (Some b) = Sum v a b.0 b.1

abbrev pub literal_of : Head ⊎ ((Text × Rest) ⊎ (Term × (Op × Term))) → Literal
literal_of (inl h) = Absent h
literal_of (inr (inl (v, inl ts))) = Atom (record { relation = v; terms = ts })
literal_of (inr (inl (v, inr (inl (a, b))))) = equation_of v a b
literal_of (inr (inl (v, inr (inr (op, t))))) = Cmp (Name v) op t
literal_of (inr (inr (c, (op, t)))) = Cmp c op t

unfoldable pub valued_literal_at : Reader Shape Literal
valued_literal_at = given literal_of (choice is_not (led same_shape not_word valued_head_at) (choice is_word (both name_at valued_rest_at) (both valued_constant_at (both op_at valued_term_at))))

unfoldable pub valued_body_at : Reader Shape (List Literal)
valued_body_at = given all_of (listed same_shape comma starts_literal valued_literal_at (most_literals - 1))

abbrev pub where_of : Option (List Literal) → List Literal
where_of None = []
where_of (Some ls) = ls

unfoldable pub valued_where_at : Reader Shape (List Literal)
valued_where_at = given where_of (maybe is_where (led same_shape where_word valued_body_at))

-- ---- statements

abbrev pub Form : Type 0
Form = (Head × List Literal) ⊎ ((Head × List Literal) ⊎ ((Head × (Head × List Literal)) ⊎ ((Bool × List Literal) ⊎ (List Term × List Literal))))

abbrev pub insert_of : Head × List Literal → Statement
insert_of x = Insert x.0 x.1

abbrev pub delete_of : Head × List Literal → Statement
delete_of x = Delete x.0 x.1

abbrev pub replace_of : Head × (Head × List Literal) → Statement
replace_of x = Replace x.0 x.1.0 x.1.1

abbrev pub require_of : Bool × List Literal → Statement
require_of x = Require x.0 x.1

abbrev pub print_of : List Term × List Literal → Statement
print_of x = Print x.0 x.1

abbrev pub form_of : Form → Statement
form_of (inl x) = insert_of x
form_of (inr (inl x)) = delete_of x
form_of (inr (inr (inl x))) = replace_of x
form_of (inr (inr (inr (inl x)))) = require_of x
form_of (inr (inr (inr (inr x)))) = print_of x

unfoldable pub valued_insert_at : Reader Shape (Head × List Literal)
valued_insert_at = led same_shape insert_word (both valued_head_at valued_where_at)

unfoldable pub valued_delete_at : Reader Shape (Head × List Literal)
valued_delete_at = led same_shape delete_word (both valued_head_at valued_where_at)

unfoldable pub valued_replace_at : Reader Shape (Head × (Head × List Literal))
valued_replace_at = led same_shape replace_word (both (ended same_shape by_word valued_head_at) (both valued_head_at valued_where_at))

unfoldable pub valued_require_at : Reader Shape (Bool × List Literal)
valued_require_at = led same_shape require_word (both need_at valued_body_at)

unfoldable pub valued_print_at : Reader Shape (List Term × List Literal)
valued_print_at = led same_shape print_word (both valued_terms_at (led same_shape where_word valued_body_at))

unfoldable pub valued_form_at : Reader Shape Statement
valued_form_at = given form_of (choice is_insert valued_insert_at (choice is_delete valued_delete_at (choice is_replace valued_replace_at (choice is_require valued_require_at valued_print_at))))

unfoldable pub valued_statement_at : Reader Shape Statement
valued_statement_at = closed (λ t. same_shape t semicolon) few_variables valued_form_at

-- ---- programs and items

abbrev pub program_of : Text × List Statement → Program
program_of x = record { name = x.0; statements = x.1 }

unfoldable pub valued_program_at : Reader Shape Program
valued_program_at = given program_of (led same_shape program_word (both name_at (ended same_shape semicolon (ended same_shape end_word (many starts_statement valued_statement_at at_once most_statements)))))

unfoldable pub valued_batch_at : Reader Shape (List Program)
valued_batch_at = led same_shape batch_word (ended same_shape semicolon (ended same_shape commit_word (many is_program valued_program_at at_once most_programs)))

unfoldable pub valued_show_at : Reader Shape (Text × Option ℕ)
valued_show_at = led same_shape show_word (both name_at (ended same_shape semicolon (maybe is_at (led same_shape at_word (valued_number_at false)))))

-- a name, and the kinds of the key columns and of the value columns
abbrev pub relation_of : Text × ((Kind × List Kind) × List Kind) → Item
relation_of x = Relation x.0 ((x.1.0.0 ∷ x.1.0.1) ++ x.1.1) (length (x.1.0.0 ∷ x.1.0.1))

abbrev pub batch_of : List Program → Item
batch_of ps = Batch ps

abbrev pub show_of : Text × Option ℕ → Item
show_of x = Show x.0 x.1

abbrev pub item_of : (Text × ((Kind × List Kind) × List Kind)) ⊎ (List Program ⊎ (Text × Option ℕ)) → Item
item_of (inl x) = relation_of x
item_of (inr (inl ps)) = batch_of ps
item_of (inr (inr x)) = show_of x

unfoldable pub valued_item_at : Reader Shape Item
valued_item_at = given item_of (choice is_relation relation_at (choice is_batch valued_batch_at valued_show_at))

-- the first kind, and the others
abbrev pub kinds_of : List Kind → Kind × List Kind
kinds_of [] = (Int, [])
kinds_of (k ∷ ks) = (k, ks)
