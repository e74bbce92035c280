-- The grammar: the tokens of each item, and what is asked of it at each level.
use Rattle.std.specs.Prelude.{◌≡◌, ℕ, ◌<◌, ◌+◌, ◌-◌, ◌||◌, List, [], ◌∷◌, ◌++◌, length, fold, Bool, true, false, nat_le, Option, Some, None, codes}
use Rattle.std.specs.List.{flat_map, AllByRecursion}
use Rattle.lt_face.specs.Limits.{most_columns, most_literals, most_programs, most_statements, most_variables}
use Rattle.lt_model.specs.declared.kind.Kind.{Kind}
use Rattle.lt_model.specs.declared.kind.Kind.TheVariants.{Int, Sym}
use Rattle.lt_model.specs.declared.syntax.Op.{Op}
use Rattle.lt_model.specs.declared.syntax.Op.TheVariants.{Eq, Ne, Lt, Le, Gt, Ge}
use Rattle.lt_reading.specs.Language.{Level, AtMost, InRange, AtClose, Language, Marks, none}
use Rattle.lt_model.specs.Tokens.{Shape, word, number, symbol, sign}
use Rattle.lt_model.specs.Variables.{with_name}
use Rattle.lt_model.specs.Grammar.{where_word, left_paren, right_paren, comma, semicolon, arrow, digits_value}
use Rattle.lt_grammar.specs.Tokens.{Text, same_shape, is_reserved, relation_word, batch_word, program_word, end_word, commit_word, show_word, at_word, insert_word, delete_word, replace_word, by_word, require_word, some_word, none_word, print_word, int_word, sym_word, not_word, equals, plus, minus}

-- ---- values

pub data Term : Type 0 where
  name : Text → Term
  -- whether a minus stands before it, and its digits
  numeral : Bool → Text → Term
  quoted : Text → Term

-- lists that aren't empty have their first apart
pub record Head : Type 0 where
  pub relation : Text
  pub first : Term
  pub others : List Term

pub data Literal : Type 0 where
  atom : Head → Literal
  absent : Head → Literal
  compare : Term → Op → Term → Literal
  -- name = a + b, or with a minus
  sum : Text → Term → Bool → Term → Literal

pub data Statement : Type 0 where
  insert : Head → List Literal → Statement
  delete : Head → List Literal → Statement
  replace : Head → Head → List Literal → Statement
  require : Bool → Literal → List Literal → Statement
  print : Term → List Term → Literal → List Literal → Statement

pub record Program : Type 0 where
  pub name : Text
  pub statements : List Statement

pub data Item : Type 0 where
  -- the kinds of the key columns, and of the value columns behind the arrow
  relation : Text → Kind → List Kind → List Kind → Item
  batch : List Program → Item
  show : Text → Option Text → Item

-- ---- spelling

abbrev pub only : Shape → List Shape
only s = s ∷ []

-- one, or more with commas between
abbrev pub with_commas : {A : Type 0} → (A → List Shape) → A → List A → List Shape
with_commas tokens x xs = tokens x ++ flat_map (λ y. only comma ++ tokens y) xs

abbrev pub in_parens : List Shape → List Shape
in_parens ts = only left_paren ++ ts ++ only right_paren

abbrev pub kind_token : Kind → Shape
kind_token Int = int_word
kind_token Sym = sym_word

abbrev pub kinds_tokens : Kind → List Kind → List Shape
kinds_tokens k ks = with_commas (λ x. only (kind_token x)) k ks

-- nothing stands where there is no value column
abbrev pub values_tokens : List Kind → List Shape
values_tokens [] = []
values_tokens (v ∷ vs) = only arrow ++ kinds_tokens v vs

abbrev pub columns_tokens : Kind → List Kind → List Kind → List Shape
columns_tokens k ks vs = kinds_tokens k ks ++ values_tokens vs

abbrev pub term_tokens : Term → List Shape
term_tokens (name text) = only (word text)
term_tokens (numeral false digits) = only (number digits)
term_tokens (numeral true digits) = only minus ++ only (number digits)
term_tokens (quoted text) = only (symbol text)

abbrev pub head_tokens : Head → List Shape
head_tokens h = only (word h.relation) ++ in_parens (with_commas term_tokens h.first h.others)

abbrev pub op_token : Op → Shape
op_token Eq = equals
op_token Ne = sign (codes "!=")
op_token Lt = sign (codes "<")
op_token Le = sign (codes "<=")
op_token Gt = sign (codes ">")
op_token Ge = sign (codes ">=")

-- whether it is a minus
abbrev pub plus_token : Bool → Shape
plus_token false = plus
plus_token true = minus

abbrev pub literal_tokens : Literal → List Shape
literal_tokens (atom h) = head_tokens h
literal_tokens (absent h) = only not_word ++ head_tokens h
literal_tokens (compare left op right) = term_tokens left ++ (only (op_token op) ++ term_tokens right)
literal_tokens (sum v a m b) = only (word v) ++ only equals ++ (term_tokens a ++ (only (plus_token m) ++ term_tokens b))

abbrev pub where_tokens : List Literal → List Shape
where_tokens [] = []
where_tokens (l ∷ ls) = only where_word ++ with_commas literal_tokens l ls

abbrev pub need_token : Bool → Shape
need_token true = some_word
need_token false = none_word

-- a statement up to its semicolon
abbrev pub form_tokens : Statement → List Shape
form_tokens (insert h body) = only insert_word ++ head_tokens h ++ where_tokens body
form_tokens (delete h body) = only delete_word ++ head_tokens h ++ where_tokens body
form_tokens (replace gone come body) = only replace_word ++ ((head_tokens gone ++ only by_word) ++ (head_tokens come ++ where_tokens body))
form_tokens (require some l ls) = only require_word ++ only (need_token some) ++ with_commas literal_tokens l ls
form_tokens (print t ts l ls) = only print_word ++ in_parens (with_commas term_tokens t ts) ++ where_tokens (l ∷ ls)

abbrev pub statement_tokens : Statement → List Shape
statement_tokens s = form_tokens s ++ only semicolon

abbrev pub program_tokens : Program → List Shape
program_tokens p = only program_word ++ only (word p.name) ++ ((flat_map statement_tokens p.statements ++ only end_word) ++ only semicolon)

abbrev pub at_tokens : Option Text → List Shape
at_tokens None = []
at_tokens (Some digits) = only at_word ++ only (number digits)

abbrev pub item_tokens : Item → List Shape
item_tokens (relation r k ks vs) = only relation_word ++ only (word r) ++ (in_parens (columns_tokens k ks vs) ++ only semicolon)
item_tokens (batch ps) = only batch_word ++ ((flat_map program_tokens ps ++ only commit_word) ++ only semicolon)
item_tokens (show r version) = only show_word ++ only (word r) ++ (at_tokens version ++ only semicolon)

-- ---- what is asked of each

abbrev pub IsName : Text → Type 0
IsName text = is_reserved text ≡ false

-- the least number past the range, without a sign and behind a minus
abbrev pub past : Bool → ℕ
past false = 9223372036854775808
past true = 9223372036854775809

abbrev pub IsTerm : Level → Term → Type 0
IsTerm level (name text) = IsName text
IsTerm level (numeral m digits) = InRange level (digits_value digits < past m)
IsTerm level (quoted text) = Unit {0}

-- at most eight
abbrev pub AreTerms : Level → Term → List Term → Type 0
AreTerms level t ts = IsTerm level t × (AllByRecursion (IsTerm level) ts × AtMost level (length ts) (most_columns - 1))

abbrev pub IsHead : Level → Head → Type 0
IsHead level h = IsName h.relation × AreTerms level h.first h.others

abbrev pub IsLiteral : Level → Literal → Type 0
IsLiteral level (atom h) = IsHead level h
IsLiteral level (absent h) = IsHead level h
IsLiteral level (compare left op right) = IsTerm level left × IsTerm level right
IsLiteral level (sum v a m b) = IsName v × (IsTerm level a × IsTerm level b)

-- at most sixteen
abbrev pub AreLiterals : Level → Literal → List Literal → Type 0
AreLiterals level l ls = IsLiteral level l × (AllByRecursion (IsLiteral level) ls × AtMost level (length ls) (most_literals - 1))

abbrev pub IsWhere : Level → List Literal → Type 0
IsWhere level [] = Unit {0}
IsWhere level (l ∷ ls) = AreLiterals level l ls

abbrev pub IsForm : Level → Statement → Type 0
IsForm level (insert h body) = IsHead level h × IsWhere level body
IsForm level (delete h body) = IsHead level h × IsWhere level body
IsForm level (replace gone come body) = IsHead level gone × (IsHead level come × IsWhere level body)
IsForm level (require some l ls) = AreLiterals level l ls
IsForm level (print t ts l ls) = AreTerms level t ts × AreLiterals level l ls

-- ---- the variables of a statement

abbrev pub term_names : Term → List Text
term_names (name text) = text ∷ []
term_names (numeral m digits) = []
term_names (quoted text) = []

abbrev pub terms_names : Term → List Term → List Text
terms_names t ts = term_names t ++ flat_map term_names ts

abbrev pub head_names : Head → List Text
head_names h = terms_names h.first h.others

abbrev pub literal_names : Literal → List Text
literal_names (atom h) = head_names h
literal_names (absent h) = head_names h
literal_names (compare left op right) = term_names left ++ term_names right
literal_names (sum v a m b) = v ∷ (term_names a ++ term_names b)

abbrev pub body_names : List Literal → List Text
body_names ls = flat_map literal_names ls

abbrev pub statement_names : Statement → List Text
statement_names (insert h body) = head_names h ++ body_names body
statement_names (delete h body) = head_names h ++ body_names body
statement_names (replace gone come body) = head_names gone ++ (head_names come ++ body_names body)
statement_names (require some l ls) = body_names (l ∷ ls)
statement_names (print t ts l ls) = terms_names t ts ++ body_names (l ∷ ls)

-- at most sixteen variables
unfoldable pub few_names : Statement → Bool
few_names s = nat_le (length (fold with_name [] (statement_names s))) most_variables

abbrev pub IsStatement : Level → Statement → Type 0
IsStatement level s = IsForm level s × AtClose level (few_names s ≡ true)

abbrev pub IsProgram : Level → Program → Type 0
IsProgram level p = IsName p.name × (AllByRecursion (IsStatement level) p.statements × AtMost level (length p.statements) most_statements)

abbrev pub IsVersion : Level → Option Text → Type 0
IsVersion level None = Unit {0}
IsVersion level (Some digits) = InRange level (digits_value digits < past false)

abbrev pub IsItem : Level → Item → Type 0
IsItem level (relation r k ks vs) = IsName r × AtMost level (length ks + length vs) (most_columns - 1)
IsItem level (batch ps) = AllByRecursion (IsProgram level) ps × AtMost level (length ps) most_programs
IsItem level (show r version) = IsName r × IsVersion level version

-- The language of items: nothing is barred behind one.
abbrev pub Items : Language Shape Item
Items = record { spell = item_tokens; Holds = IsItem; bars = λ x. none }

-- the comma and the arrow are never blamed for what is too many
abbrev pub is_spared : Shape → Bool
is_spared t = same_shape t comma || same_shape t arrow

-- These two, the semicolon, at which a statement is judged, and the numbers.
abbrev pub script_marks : Marks Shape
script_marks = record { spared = is_spared; closing = semicolon; IsNumber = λ t. (digits : Text) × (t ≡ number digits) }
