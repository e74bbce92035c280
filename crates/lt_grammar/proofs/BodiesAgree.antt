-- Terms, heads, literals and bodies of the tree are written as the language spells what they stand for.
use Rattle.std.proofs.Common.{◌≡◌, ℕ, ◌<◌, ◌≤◌, Bool, true, false, List, [], ◌∷◌, ◌++◌, refl, sym as turned, ap, subst, ◌∙◌, arith}
use Rattle.std.specs.Prelude.{map}
use Rattle.lt_reading.specs.Language.{Level, formed, few, fine, full, InRange}
use Rattle.lt_model.specs.declared.kind.Kind.TheVariants.{Int, Sym}
use Rattle.lt_model.specs.declared.syntax.Term.{Term as TermValue}
use Rattle.lt_model.specs.declared.syntax.Term.TheVariants.{Name, Cell}
use Rattle.lt_model.specs.declared.syntax.Head.{Head as HeadValue}
use Rattle.lt_model.specs.declared.syntax.Op.{Op}
use Rattle.lt_model.specs.declared.syntax.Op.TheVariants.{Eq, Ne, Lt, Le, Gt, Ge}
use Rattle.lt_model.specs.declared.syntax.Literal.{Literal as LiteralValue}
use Rattle.lt_model.specs.declared.syntax.Literal.TheVariants.{Atom, Absent, Cmp, Sum}
use Rattle.lt_model.specs.Tokens.{Shape, word, sign}
use Rattle.lt_model.specs.Grammar.{UpTo, the, ◌·◌, left_paren, right_paren, where_word, digits_value, signed, greatest, op_text, sum_text, SpellsName, SpellsTerm, SpellsTerms, SpellsHead, SpellsLiteral, SpellsBody, SpellsWhere}
use Rattle.lt_grammar.specs.Tokens.{Text, not_word, equals}
use Rattle.lt_grammar.specs.Grammar.{Term, name, numeral, quoted, Literal, atom, absent, compare, sum, only, with_commas, in_parens, past, IsName, IsTerm, IsHead, IsLiteral, IsWhere, term_tokens, head_tokens, op_token, plus_token, literal_tokens, where_tokens}
use Rattle.lt_grammar.specs.Meaning.{level_of, term_value, head_value, literal_value}
use Rattle.lt_grammar.proofs.Agrees.{Written, Agrees, led_agrees, ended_agrees, pair_agrees, few_agrees, AreFew}

-- ---- names

pub names_agree : Agrees IsName (λ x. only (word x)) (λ x. x) SpellsName
names_agree = record { there = λ x h. (refl, h); back = λ v ts h. (v, h.1, refl, turned h.0) }

-- ---- numbers

within : (m : Bool) (n : ℕ) → n < past m → n ≤ greatest m
within false n h = omega (arith, h)
within true n h = omega (arith, h)

below : (m : Bool) (n : ℕ) → n ≤ greatest m → n < past m
below false n h = omega (arith, h)
below true n h = omega (arith, h)

pub to_range : (level : Level) (m : Bool) (n : ℕ) → InRange level (n < past m) → UpTo (level_of level) (greatest m) n
to_range formed m n h = tt
to_range few m n h = tt
to_range fine m n h = within m n h
to_range full m n h = within m n h

pub from_range : (level : Level) (m : Bool) (n : ℕ) → UpTo (level_of level) (greatest m) n → InRange level (n < past m)
from_range formed m n h = tt
from_range few m n h = tt
from_range fine m n h = below m n h
from_range full m n h = below m n h

-- ---- terms

term_there : (level : Level) (t : Term) → IsTerm level t → SpellsTerm (level_of level) (term_value t) (term_tokens t)
term_there level (name text) h = (refl, h)
term_there level (numeral false digits) h = (false, digits, refl, refl, to_range level false (digits_value digits) h)
term_there level (numeral true digits) h = (true, digits, refl, refl, to_range level true (digits_value digits) h)
term_there level (quoted text) h = (text, refl, refl)

numeral_tokens : (m : Bool) (digits : Text) → term_tokens (numeral m digits) ≡ signed m digits
numeral_tokens false digits = refl
numeral_tokens true digits = refl

term_back : (level : Level) (v : TermValue) (ts : List Shape) → SpellsTerm (level_of level) v ts → Written (IsTerm level) term_tokens term_value v ts
term_back level (Name text) ts h = (name text, h.1, refl, turned h.0)
term_back level (Cell Int cell) ts h = (numeral h.0 h.1, from_range level h.0 (digits_value h.1) h.4, ap (Cell Int) (turned h.3), numeral_tokens h.0 h.1 ∙ turned h.2)
term_back level (Cell Sym cell) ts h = (quoted h.0, tt, ap (Cell Sym) (turned h.2), turned h.1)

pub terms_agree : (level : Level) → Agrees (IsTerm level) term_tokens term_value (SpellsTerm (level_of level))
terms_agree level = record { there = term_there level; back = term_back level }

abbrev pub argument_tokens : Term × List Term → List Shape
argument_tokens x = in_parens (with_commas term_tokens x.0 x.1)

abbrev pub argument_value : Term × List Term → List TermValue
argument_value x = term_value x.0 ∷ map term_value x.1

pub arguments_agree : (level : Level) → Agrees (λ (x : Term × List Term). AreFew (terms_agree level) level 7 x) argument_tokens argument_value (SpellsTerms (level_of level))
arguments_agree level = led_agrees (ended_agrees (few_agrees (terms_agree level) level 7) (only right_paren) (the right_paren) refl (λ ts h. turned h)) left_paren

-- ---- heads

head_back : (level : Level) (v : HeadValue) (ts : List Shape) → SpellsHead (level_of level) v ts → Written (IsHead level) head_tokens head_value v ts
head_back level v ts h =
    let x = (pair_agrees names_agree (arguments_agree level)).back (v.relation, v.terms) ts h in
    let value : Text × List TermValue → HeadValue = λ w. record { relation = w.0; terms = w.1 } in
    (record { relation = x.0.0; first = x.0.1.0; others = x.0.1.1 }, x.1, ap value x.2, x.3)

pub heads_agree : (level : Level) → Agrees (IsHead level) head_tokens head_value (SpellsHead (level_of level))
heads_agree level = record { there = λ h k. (pair_agrees names_agree (arguments_agree level)).there (h.relation, (h.first, h.others)) k; back = head_back level }

-- ---- literals

op_same : (op : Op) → sign (op_text op) ≡ op_token op
op_same Eq = refl
op_same Ne = refl
op_same Lt = refl
op_same Le = refl
op_same Gt = refl
op_same Ge = refl

sum_same : (m : Bool) → sign (sum_text m) ≡ plus_token m
sum_same false = refl
sum_same true = refl

-- two terms with a token between
two_agree : (level : Level) (s : Shape)
    → Agrees (λ (x : Term × Term). IsTerm level x.0 × IsTerm level x.1) (λ x. term_tokens x.0 ++ (s ∷ term_tokens x.1)) (λ x. (term_value x.0, term_value x.1)) (λ (v : TermValue × TermValue). SpellsTerm (level_of level) v.0 · the s · SpellsTerm (level_of level) v.1)
two_agree level s = pair_agrees (terms_agree level) (led_agrees (terms_agree level) s)

-- a name, an equals sign, and two terms with a token between
sum_agrees : (level : Level) (s : Shape)
    → Agrees (λ (x : Text × (Term × Term)). IsName x.0 × (IsTerm level x.1.0 × IsTerm level x.1.1)) (λ x. only (word x.0) ++ (equals ∷ (term_tokens x.1.0 ++ (s ∷ term_tokens x.1.1)))) (λ x. (x.0, (term_value x.1.0, term_value x.1.1)))
    (λ (v : Text × (TermValue × TermValue)). SpellsName v.0 · the equals · SpellsTerm (level_of level) v.1.0 · the s · SpellsTerm (level_of level) v.1.1)
sum_agrees level s = pair_agrees names_agree (led_agrees (two_agree level s) equals)

literal_there : (level : Level) (l : Literal) → IsLiteral level l → SpellsLiteral (level_of level) (literal_value l) (literal_tokens l)
literal_there level (atom h) k = (heads_agree level).there h k
literal_there level (absent h) k = (led_agrees (heads_agree level) not_word).there h k
literal_there level (compare left op right) h =
    subst (λ (s : Shape). SpellsLiteral (level_of level) (literal_value (compare left op right)) (term_tokens left ++ (s ∷ term_tokens right))) (op_same op) ((two_agree level (sign (op_text op))).there (left, right) h)
literal_there level (sum v a m b) h =
    subst (λ (s : Shape). SpellsLiteral (level_of level) (literal_value (sum v a m b)) (only (word v) ++ (equals ∷ (term_tokens a ++ (s ∷ term_tokens b))))) (sum_same m) ((sum_agrees level (sign (sum_text m))).there (v, (a, b)) h)

literal_back : (level : Level) (v : LiteralValue) (ts : List Shape) → SpellsLiteral (level_of level) v ts → Written (IsLiteral level) literal_tokens literal_value v ts
literal_back level (Atom v) ts h = let x = (heads_agree level).back v ts h in (atom x.0, x.1, ap Atom x.2, x.3)
literal_back level (Absent v) ts h = let x = (led_agrees (heads_agree level) not_word).back v ts h in (absent x.0, x.1, ap Absent x.2, x.3)
literal_back level (Cmp left op right) ts h =
    let x = (two_agree level (sign (op_text op))).back (left, right) ts h in (
      compare x.0.0 op x.0.1,
      x.1,
      ap (λ (w : TermValue × TermValue). Cmp w.0 op w.1) x.2,
      ap (λ (s : Shape). term_tokens x.0.0 ++ (s ∷ term_tokens x.0.1)) (turned (op_same op)) ∙ x.3,
    )
literal_back level (Sum v a m b) ts h =
    let x = (sum_agrees level (sign (sum_text m))).back (v, (a, b)) ts h in (
      sum x.0.0 x.0.1.0 m x.0.1.1,
      x.1,
      ap (λ (w : Text × (TermValue × TermValue)). Sum w.0 w.1.0 m w.1.1) x.2,
      ap (λ (s : Shape). only (word x.0.0) ++ (equals ∷ (term_tokens x.0.1.0 ++ (s ∷ term_tokens x.0.1.1)))) (turned (sum_same m)) ∙ x.3,
    )

pub literals_agree : (level : Level) → Agrees (IsLiteral level) literal_tokens literal_value (SpellsLiteral (level_of level))
literals_agree level = record { there = literal_there level; back = literal_back level }

-- ---- bodies

abbrev pub body_tokens : Literal × List Literal → List Shape
body_tokens x = with_commas literal_tokens x.0 x.1

abbrev pub bodies_value : Literal × List Literal → List LiteralValue
bodies_value x = literal_value x.0 ∷ map literal_value x.1

pub bodies_agree : (level : Level) → Agrees (λ (x : Literal × List Literal). AreFew (literals_agree level) level 15 x) body_tokens bodies_value (SpellsBody (level_of level))
bodies_agree level = few_agrees (literals_agree level) level 15

where_there : (level : Level) (ls : List Literal) → IsWhere level ls → SpellsWhere (level_of level) (map literal_value ls) (where_tokens ls)
where_there level [] h = refl
where_there level (l ∷ ls) h = (led_agrees (bodies_agree level) where_word).there (l, ls) h

where_back : (level : Level) (v : List LiteralValue) (ts : List Shape) → SpellsWhere (level_of level) v ts → Written (IsWhere level) where_tokens (map literal_value) v ts
where_back level [] ts h = ([], tt, refl, turned h)
where_back level (l ∷ ls) ts h = let x = (led_agrees (bodies_agree level) where_word).back (l ∷ ls) ts h in (x.0.0 ∷ x.0.1, x.1, x.2, x.3)

pub wheres_agree : (level : Level) → Agrees (IsWhere level) where_tokens (map literal_value) (SpellsWhere (level_of level))
wheres_agree level = record { there = where_there level; back = where_back level }
