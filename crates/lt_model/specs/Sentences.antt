-- The grammar up to statements: the token lists that each production derives.
-- A thing may be written in several ways (a number with leading zeros, 0 with a minus), so a production is no function
-- from a thing to its tokens but the set of its spellings. A level says how many of the limits are asked for.
use Rattle.std.specs.Prelude.{◌≡◌, ℕ, ◌+◌, ◌-◌, ◌*◌, ◌≤◌, Bool, true, false, List, [], ◌∷◌, ◌++◌, length, fold, codes}
use Rattle.std.specs.List.{list_any}
use Rattle.std.specs.Str.{bytes_eq}
use Rattle.lt_face.specs.Limits.{most_columns, most_literals, most_variables}
use Rattle.lt_model.specs.declared.kind.Kind.TheVariants.{Int, Sym}
use Rattle.lt_model.specs.declared.syntax.Term.{Term}
use Rattle.lt_model.specs.declared.syntax.Term.TheVariants.{Name, Cell}
use Rattle.lt_model.specs.declared.syntax.Head.{Head}
use Rattle.lt_model.specs.declared.syntax.Op.{Op}
use Rattle.lt_model.specs.declared.syntax.Op.TheVariants.{Eq, Ne, Lt, Le, Gt, Ge}
use Rattle.lt_model.specs.declared.syntax.Literal.{Literal}
use Rattle.lt_model.specs.declared.syntax.Literal.TheVariants.{Atom, Absent, Cmp, Sum}
use Rattle.lt_model.specs.declared.syntax.Statement.{Statement}
use Rattle.lt_model.specs.declared.syntax.Statement.TheVariants.{Insert, Delete, Replace, Require, Print}
use Rattle.lt_model.specs.Cells.{zero_cell, sym_cell}
use Rattle.lt_model.specs.Tokens.{Shape, word, number, symbol, sign}
use Rattle.lt_model.specs.Variables.{variables}

-- ---- what is asked for

-- the form alone; the limits of lists too; the ranges of numbers too; and the limit of variables too
pub data Level : Type 0 where
  formed : Level
  few : Level
  fine : Level
  legal : Level

-- at most so many
abbrev pub AtMost : Level → ℕ → ℕ → Type 0
AtMost formed limit n = Unit {0}
AtMost few limit n = n ≤ limit
AtMost fine limit n = n ≤ limit
AtMost legal limit n = n ≤ limit

-- a number up to this one
abbrev pub UpTo : Level → ℕ → ℕ → Type 0
UpTo formed limit n = Unit {0}
UpTo few limit n = Unit {0}
UpTo fine limit n = n ≤ limit
UpTo legal limit n = n ≤ limit

-- at most 16 variables
abbrev pub HasFewVariables : Level → Statement → Type 0
HasFewVariables formed s = Unit {0}
HasFewVariables few s = Unit {0}
HasFewVariables fine s = Unit {0}
HasFewVariables legal s = length (variables s) ≤ most_variables

-- ---- languages

-- the token lists that a thing may be written as
abbrev pub Language : Type 1
Language = List Shape → Type 0

-- this one token
abbrev pub the : Shape → Language
the s ts = ts ≡ s ∷ []

abbrev pub nothing : Language
nothing ts = ts ≡ []

-- the one and then the other
infixr 10 ◌·◌
abbrev pub ◌·◌ : Language → Language → Language
(P · Q) ts = (front : List Shape) × (back : List Shape) × (ts ≡ front ++ back) × P front × Q back

-- all, in order
abbrev pub each : {A : Type 0} → (A → Language) → List A → Language
each P [] = nothing
each P (x ∷ xs) = P x · each P xs

abbrev pub comma : Shape
comma = sign (codes ",")

-- one, or more with commas between
abbrev pub listed : {A : Type 0} → (A → Language) → List A → Language
listed P [] ts = ⊥
listed P (x ∷ xs) ts = (P x · each (λ y. the comma · P y) xs) ts

-- the same of at most so many
abbrev pub limited : {A : Type 0} → Level → ℕ → ((A → Language) → List A → Language) → (A → Language) → List A → Language
limited level limit how P xs ts = AtMost level limit (length xs) × how P xs ts

-- ---- tokens

abbrev pub left_paren : Shape
left_paren = sign (codes "(")

abbrev pub right_paren : Shape
right_paren = sign (codes ")")

abbrev pub semicolon : Shape
semicolon = sign (codes ";")

abbrev pub minus_sign : Shape
minus_sign = sign (codes "-")

abbrev pub arrow : Shape
arrow = sign (codes "->")

abbrev pub reserved : List (List ℕ)
reserved =
    codes "relation" ∷ codes "batch" ∷ codes "program" ∷ codes "end" ∷ codes "commit" ∷ codes "show" ∷ codes "at" ∷ codes "insert" ∷ codes "delete" ∷ codes "replace"
    ∷ codes "by" ∷ codes "where" ∷ codes "require" ∷ codes "some" ∷ codes "none" ∷ codes "print" ∷ codes "int" ∷ codes "sym" ∷ codes "not" ∷ []

-- a word that isn't reserved
abbrev pub SpellsName : List ℕ → Language
SpellsName name ts = (ts ≡ word name ∷ []) × (list_any (bytes_eq name) reserved ≡ false)

-- the number that digits spell
abbrev pub digits_value : List ℕ → ℕ
digits_value digits = fold (λ n d. 10 * n + (d - 48)) 0 digits

-- ---- terms

abbrev pub signed : Bool → List ℕ → List Shape
signed false digits = number digits ∷ []
signed true digits = minus_sign ∷ number digits ∷ []

-- the greatest number, without a minus and behind one
abbrev pub greatest : Bool → ℕ
greatest false = 9223372036854775807
greatest true = 9223372036854775808

abbrev pub signed_cell : Bool → ℕ → ℕ
signed_cell false n = zero_cell + n
signed_cell true n = zero_cell - n

abbrev pub SpellsTerm : Level → Term → Language
SpellsTerm level (Name name) ts = SpellsName name ts
SpellsTerm level (Cell Int cell) ts =
    (minus : Bool) × (digits : List ℕ) × (ts ≡ signed minus digits) × (cell ≡ signed_cell minus (digits_value digits)) × UpTo level (greatest minus) (digits_value digits)
SpellsTerm level (Cell Sym cell) ts = (text : List ℕ) × (ts ≡ symbol text ∷ []) × (cell ≡ sym_cell text)

abbrev pub SpellsTerms : Level → List Term → Language
SpellsTerms level terms = the left_paren · limited level most_columns listed (SpellsTerm level) terms · the right_paren

abbrev pub SpellsHead : Level → Head → Language
SpellsHead level head = SpellsName head.relation · SpellsTerms level head.terms

-- ---- bodies

abbrev pub op_text : Op → List ℕ
op_text Eq = codes "="
op_text Ne = codes "!="
op_text Lt = codes "<"
op_text Le = codes "<="
op_text Gt = codes ">"
op_text Ge = codes ">="

abbrev pub sum_text : Bool → List ℕ
sum_text false = codes "+"
sum_text true = codes "-"

abbrev pub SpellsLiteral : Level → Literal → Language
SpellsLiteral level (Atom head) = SpellsHead level head
SpellsLiteral level (Absent head) = the (word (codes "not")) · SpellsHead level head
SpellsLiteral level (Cmp left op right) = SpellsTerm level left · the (sign (op_text op)) · SpellsTerm level right
SpellsLiteral level (Sum var a minus b) = SpellsName var · the (sign (codes "=")) · SpellsTerm level a · the (sign (sum_text minus)) · SpellsTerm level b

abbrev pub SpellsBody : Level → List Literal → Language
SpellsBody level body = limited level most_literals listed (SpellsLiteral level) body

abbrev pub where_word : Shape
where_word = word (codes "where")

-- a body may be left out
abbrev pub SpellsWhere : Level → List Literal → Language
SpellsWhere level [] = nothing
SpellsWhere level (l ∷ ls) = the where_word · SpellsBody level (l ∷ ls)

-- ---- statements

abbrev pub some_text : Bool → List ℕ
some_text true = codes "some"
some_text false = codes "none"

abbrev pub SpellsForm : Level → Statement → Language
SpellsForm level (Insert head body) = the (word (codes "insert")) · SpellsHead level head · SpellsWhere level body · the semicolon
SpellsForm level (Delete head body) = the (word (codes "delete")) · SpellsHead level head · SpellsWhere level body · the semicolon
SpellsForm level (Replace gone come body) =
    the (word (codes "replace")) · SpellsHead level gone · the (word (codes "by")) · SpellsHead level come · SpellsWhere level body · the semicolon
SpellsForm level (Require some body) = the (word (codes "require")) · the (word (some_text some)) · SpellsBody level body · the semicolon
SpellsForm level (Print terms body) = the (word (codes "print")) · SpellsTerms level terms · the where_word · SpellsBody level body · the semicolon

abbrev pub SpellsStatement : Level → Statement → Language
SpellsStatement level s ts = HasFewVariables level s × SpellsForm level s ts
