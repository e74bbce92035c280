-- No semicolon stands within a statement: it only ends one.
use Rattle.std.proofs.Common.{◌≡◌, Bool, true, false, List, [], ◌∷◌, ◌++◌, refl}
use Rattle.std.specs.List.{flat_map}
use Rattle.lt_reading.proofs.Closing.{Unclosed, unclosed_append}
use Rattle.lt_model.specs.Tokens.{Shape}
use Rattle.lt_model.specs.Grammar.{comma, semicolon, right_paren}
use Rattle.lt_grammar.specs.Tokens.{same_shape, by_word}
use Rattle.lt_model.specs.declared.syntax.Op.{Op}
use Rattle.lt_model.specs.declared.syntax.Op.TheVariants.{Eq, Ne, Lt, Le, Gt, Ge}
use Rattle.lt_grammar.specs.Grammar.{Term, name, numeral, quoted, Head, Literal, atom, absent, compare, sum, Statement, insert, delete, replace, require, print, only, with_commas, in_parens, term_tokens, head_tokens, op_token, plus_token, literal_tokens, where_tokens, need_token, form_tokens}
use Rattle.lt_grammar.proofs.Shapes.{marks}

further : {A : Type 0} (tokens : A → List Shape) → ((x : A) → Unclosed marks (tokens x)) → (xs : List A) → Unclosed marks (flat_map (λ y. only comma ++ tokens y) xs)
further tokens each [] = tt
further tokens each (x ∷ xs) = (refl, unclosed_append marks (tokens x) (flat_map (λ y. only comma ++ tokens y) xs) (each x) (further tokens each xs))

listed : {A : Type 0} (tokens : A → List Shape) → ((x : A) → Unclosed marks (tokens x)) → (x : A) (xs : List A) → Unclosed marks (with_commas tokens x xs)
listed tokens each x xs = unclosed_append marks (tokens x) (flat_map (λ y. only comma ++ tokens y) xs) (each x) (further tokens each xs)

parens : (ts : List Shape) → Unclosed marks ts → Unclosed marks (in_parens ts)
parens ts h = (refl, unclosed_append marks ts (only right_paren) h (refl, tt))

term : (x : Term) → Unclosed marks (term_tokens x)
term (name x) = (refl, tt)
term (numeral true x) = (refl, (refl, tt))
term (numeral false x) = (refl, tt)
term (quoted x) = (refl, tt)

head : (h : Head) → Unclosed marks (head_tokens h)
head h = (refl, parens (with_commas term_tokens h.first h.others) (listed term_tokens term h.first h.others))

op : (x : Op) → same_shape (op_token x) semicolon ≡ false
op Eq = refl
op Ne = refl
op Lt = refl
op Le = refl
op Gt = refl
op Ge = refl

plus : (x : Bool) → same_shape (plus_token x) semicolon ≡ false
plus true = refl
plus false = refl

literal : (x : Literal) → Unclosed marks (literal_tokens x)
literal (atom h) = head h
literal (absent h) = (refl, head h)
literal (compare left o right) = unclosed_append marks (term_tokens left) (op_token o ∷ term_tokens right) (term left) (op o, term right)
literal (sum v a m b) = (refl, (refl, unclosed_append marks (term_tokens a) (plus_token m ∷ term_tokens b) (term a) (plus m, term b)))

body : (l : Literal) (ls : List Literal) → Unclosed marks (with_commas literal_tokens l ls)
body l ls = listed literal_tokens literal l ls

where_part : (ls : List Literal) → Unclosed marks (where_tokens ls)
where_part [] = tt
where_part (l ∷ ls) = (refl, body l ls)

need : (x : Bool) → same_shape (need_token x) semicolon ≡ false
need true = refl
need false = refl

pub form : (s : Statement) → Unclosed marks (form_tokens s)
form (insert h ls) = (refl, unclosed_append marks (head_tokens h) (where_tokens ls) (head h) (where_part ls))
form (delete h ls) = (refl, unclosed_append marks (head_tokens h) (where_tokens ls) (head h) (where_part ls))
form (replace gone come ls) = (
  refl,
  unclosed_append marks (head_tokens gone ++ only by_word) (head_tokens come ++ where_tokens ls) (unclosed_append marks (head_tokens gone) (only by_word) (head gone) (refl, tt))
      (unclosed_append marks (head_tokens come) (where_tokens ls) (head come) (where_part ls)),
)
form (require some l ls) = (refl, (need some, body l ls))
form (print t ts l ls) = (refl, unclosed_append marks (in_parens (with_commas term_tokens t ts)) (where_tokens (l ∷ ls)) (parens (with_commas term_tokens t ts) (listed term_tokens term t ts)) (where_part (l ∷ ls)))
