-- What is read is within the limits of the language.
use Rattle.std.proofs.Common.{◌≡◌, ℕ, ◌<◌, ◌≤◌, Bool, true, false, List, [], ◌∷◌, ◌++◌, ◌+◌, length, map, None, Some, Ok, subst, arith}
use Rattle.std.specs.Prelude.{flat_map}
use Rattle.std.specs.List.{AllByRecursion}
use Rattle.std.proofs.lemmas.List.{length-map, length-append}
use Rattle.lt_face.specs.Rows.{IsCell}
use Rattle.lt_model.specs.declared.kind.Kind.{Kind}
use Rattle.lt_model.specs.Tokens.{Shape}
use Rattle.lt_model.specs.Grammar.{digits_value, signed_cell, comma, left_paren, right_paren, semicolon}
use Rattle.lt_model.specs.Limits.{HasCell, AreTermsWithin, IsLiteralWithin, IsStatementWithin, IsProgramWithin, IsWithinLimits}
use Rattle.lt_values.proofs.Padding.{IsCell-sym_cell}
use Rattle.lt_reading.specs.Language.{full}
use Rattle.lt_grammar.specs.Tokens.{insert_word, delete_word, by_word, print_word, end_word, commit_word}
use Rattle.lt_grammar.specs.Grammar as grammar
use Rattle.lt_grammar.specs.Grammar.{Term, name, numeral, quoted, Head, Literal, atom, absent, compare, sum, Statement, insert, delete, replace, require, print, Program, Item, relation, batch, show, only, in_parens, with_commas, term_tokens, head_tokens, literal_tokens, where_tokens, form_tokens, statement_tokens, program_tokens, item_tokens}
use Rattle.lt_grammar.specs.Meaning.{term_value, terms_value, literal_value, statement_value, program_value, item_value}
use Rattle.lt_grammar.specs.Productions.{item_at}
use Rattle.lt_grammar.proofs.Scripts.{items_read}
use Rattle.lt_grammar.proofs.Variables.{to_few}
use Rattle.lt_script.specs.Ahead.{Place, shapes}
use Rattle.lt_script.proofs.Good.{AreGood, both_good, shapes_good}

-- ---- terms

int_cell : (minus : Bool) (n : ℕ) → n < grammar.past minus → IsCell (signed_cell minus n)
int_cell true n h = (omega arith, omega arith)
int_cell false n h = (omega arith, omega arith)

has_cell : (t : Term) → grammar.IsTerm full t → AreGood (term_tokens t) → HasCell (term_value t)
has_cell (name text) h g = tt
has_cell (numeral minus digits) h g = int_cell minus (digits_value digits) h
has_cell (quoted text) h g = IsCell-sym_cell text g.0

-- ---- lists

-- what holds of each of a list holds of what each stands for
each_value : {A B : Type 0} (P G : A → Type 0) (Q : B → Type 0) (value : A → B) → ((x : A) → P x → G x → Q (value x)) → (xs : List A) → AllByRecursion P xs → AllByRecursion G xs → AllByRecursion Q (map value xs)
each_value P G Q value one [] h g = tt
each_value P G Q value one (x ∷ xs) h g = (one x h.0 g.0, each_value P G Q value one xs h.1 g.1)

good_each : {A : Type 0} (tokens : A → List Shape) (xs : List A) → AreGood (flat_map tokens xs) → AllByRecursion (λ x. AreGood (tokens x)) xs
good_each tokens [] g = tt
good_each tokens (x ∷ xs) g = let m = both_good (tokens x) (flat_map tokens xs) g in (m.0, good_each tokens xs m.1)

good_behind : {A : Type 0} (tokens : A → List Shape) (xs : List A) → AreGood (flat_map (λ y. only comma ++ tokens y) xs) → AllByRecursion (λ x. AreGood (tokens x)) xs
good_behind tokens [] g = tt
good_behind tokens (x ∷ xs) g = let m = both_good (only comma ++ tokens x) (flat_map (λ y. only comma ++ tokens y) xs) g in (m.0.1, good_behind tokens xs m.1)

good_commas : {A : Type 0} (tokens : A → List Shape) (x : A) (xs : List A) → AreGood (with_commas tokens x xs) → AreGood (tokens x) × AllByRecursion (λ x. AreGood (tokens x)) xs
good_commas tokens x xs g = let m = both_good (tokens x) (flat_map (λ y. only comma ++ tokens y) xs) g in (m.0, good_behind tokens xs m.1)

good_inside : (ts : List Shape) → AreGood (in_parens ts) → AreGood ts
good_inside ts g = (both_good (only left_paren ++ ts) (only right_paren) g).0.1

terms_within : (t : Term) (ts : List Term) → grammar.AreTerms full t ts → AreGood (with_commas term_tokens t ts) → AreTermsWithin (terms_value t ts)
terms_within t ts h g = let m = good_commas term_tokens t ts g in record {
  some = omega arith;
  few = omega (arith, length-map ts term_value, h.1.1);
  cells = (has_cell t h.0 m.0, each_value (grammar.IsTerm full) (λ x. AreGood (term_tokens x)) HasCell term_value has_cell ts h.1.0 m.1);
}

head_within : (x : Head) → grammar.IsHead full x → AreGood (head_tokens x) → AreTermsWithin (terms_value x.first x.others)
head_within x h g = terms_within x.first x.others h.1 (good_inside (with_commas term_tokens x.first x.others) g.1)

-- ---- bodies

literal_within : (l : Literal) → grammar.IsLiteral full l → AreGood (literal_tokens l) → IsLiteralWithin (literal_value l)
literal_within (atom x) h g = head_within x h g
literal_within (absent x) h g = head_within x h g.1
literal_within (compare left op right) h g = let m = both_good (term_tokens left) (only (grammar.op_token op) ++ term_tokens right) g in (has_cell left h.0 m.0, has_cell right h.1 m.1.1)
literal_within (sum v a minus b) h g = let m = both_good (term_tokens a) (only (grammar.plus_token minus) ++ term_tokens b) g.1.1 in (has_cell a h.1.0 m.0, has_cell b h.1.1 m.1.1)

-- the literals of a body, which are few
abbrev AreWithin : List Literal → Type 0
AreWithin ls = AllByRecursion IsLiteralWithin (map literal_value ls) × (length (map literal_value ls) ≤ 16)

body_within : (l : Literal) (ls : List Literal) → grammar.AreLiterals full l ls → AreGood (with_commas literal_tokens l ls) → AreWithin (l ∷ ls)
body_within l ls h g =
    let m = good_commas literal_tokens l ls g in
    ((literal_within l h.0 m.0, each_value (grammar.IsLiteral full) (λ x. AreGood (literal_tokens x)) IsLiteralWithin literal_value literal_within ls h.1.0 m.1), omega (arith, length-map ls literal_value, h.1.1))

where_within : (ls : List Literal) → grammar.IsWhere full ls → AreGood (where_tokens ls) → AreWithin ls
where_within [] h g = (tt, omega arith)
where_within (l ∷ ls) h g = body_within l ls h g.1

-- ---- statements, programs, items

form_within : (s : Statement) → grammar.IsStatement full s → AreGood (form_tokens s) → IsStatementWithin (statement_value s)
form_within (insert x body) h g =
    let m = both_good (only insert_word ++ head_tokens x) (where_tokens body) g in
    let b = where_within body h.0.1 m.1 in
    record { heads = (head_within x h.0.0 m.0.1, tt); printed = tt; literals = b.0; few_literals = b.1; few_variables = to_few full (insert x body) h.1 }
form_within (delete x body) h g =
    let m = both_good (only delete_word ++ head_tokens x) (where_tokens body) g in
    let b = where_within body h.0.1 m.1 in
    record { heads = (head_within x h.0.0 m.0.1, tt); printed = tt; literals = b.0; few_literals = b.1; few_variables = to_few full (delete x body) h.1 }
form_within (replace gone come body) h g =
    let m = both_good (head_tokens gone ++ only by_word) (head_tokens come ++ where_tokens body) g.1 in
    let first = both_good (head_tokens gone) (only by_word) m.0 in
    let others = both_good (head_tokens come) (where_tokens body) m.1 in
    let b = where_within body h.0.1.1 others.1 in
    record { heads = (head_within gone h.0.0 first.0, (head_within come h.0.1.0 others.0, tt)); printed = tt; literals = b.0; few_literals = b.1; few_variables = to_few full (replace gone come body) h.1 }
form_within (require some l ls) h g =
    let b = body_within l ls h.0 g.1.1 in
    record { heads = tt; printed = tt; literals = b.0; few_literals = b.1; few_variables = to_few full (require some l ls) h.1 }
form_within (print t ts l ls) h g =
    let m = both_good (only print_word ++ in_parens (with_commas term_tokens t ts)) (where_tokens (l ∷ ls)) g in
    let b = body_within l ls h.0.1 m.1.1 in
    record { heads = tt; printed = terms_within t ts h.0.0 (good_inside (with_commas term_tokens t ts) m.0.1); literals = b.0; few_literals = b.1; few_variables = to_few full (print t ts l ls) h.1 }

pub statement_within : (s : Statement) → grammar.IsStatement full s → AreGood (statement_tokens s) → IsStatementWithin (statement_value s)
statement_within s h g = form_within s h (both_good (form_tokens s) (only semicolon) g).0

program_within : (p : Program) → grammar.IsProgram full p → AreGood (program_tokens p) → IsProgramWithin (program_value p)
program_within p h g =
    let behind = both_good (flat_map statement_tokens p.statements ++ only end_word) (only semicolon) g.1.1 in
    let all = both_good (flat_map statement_tokens p.statements) (only end_word) behind.0 in
    record {
      statements = each_value (grammar.IsStatement full) (λ x. AreGood (statement_tokens x)) IsStatementWithin statement_value statement_within p.statements h.1.0 (good_each statement_tokens p.statements all.0);
      few = omega (arith, length-map p.statements statement_value, h.1.1);
    }

columns_within : (k : Kind) (ks values : List Kind) → length ks + length values ≤ 7 → (1 ≤ length ((k ∷ ks) ++ values)) × (length ((k ∷ ks) ++ values) ≤ 8) × (1 ≤ length (k ∷ ks)) × (length (k ∷ ks) ≤ length ((k ∷ ks) ++ values))
columns_within k ks values h =
    let e : length ((k ∷ ks) ++ values) ≡ length (k ∷ ks) + length values = length-append (k ∷ ks) values in
    (omega (arith, e, h), omega (arith, e, h), omega arith, omega (arith, e))

item_within : (x : Item) → grammar.IsItem full x → AreGood (item_tokens x) → IsWithinLimits (item_value x)
item_within (relation r k ks values) h g = columns_within k ks values h.1
item_within (batch ps) h g =
    let behind = both_good (flat_map program_tokens ps ++ only commit_word) (only semicolon) g.1 in
    let all = both_good (flat_map program_tokens ps) (only commit_word) behind.0 in
    (each_value (grammar.IsProgram full) (λ x. AreGood (program_tokens x)) IsProgramWithin program_value program_within ps h.0 (good_each program_tokens ps all.0), omega (arith, length-map ps program_value, h.1))
item_within (show r None) h g = tt
item_within (show r (Some digits)) h g = omega (arith, h.1)

pub read_within : (p : Place) (x : Item) (rest : List Shape) → item_at (shapes p) ≡ Ok (x, rest) → IsWithinLimits (item_value x)
read_within p x rest e =
    let f = items_read.found (shapes p) x rest e in
    item_within x f.1 (both_good (item_tokens x) rest (subst AreGood f.0 (shapes_good p))).0
