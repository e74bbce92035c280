-- Literals, bodies and `where` parts are read exactly. `x = y` may go on with a plus or a minus, so these are barred behind it.
use Rattle.std.proofs.Common.{◌≡◌, Bool, true, false, List, [], ◌∷◌, ◌++◌, Option, Some, None, refl, sym as turned, ap, ◌∙◌, inl, inr, ◌⊎◌}
use Rattle.std.specs.Prelude.{cond, codes}
use Rattle.std.proofs.lemmas.Bool.{true≢false}
use Rattle.std.proofs.lemmas.List.{append-nil}
use Rattle.std.proofs.lemmas.Slice.Eq.{bytes_eq-Decides}
use Rattle.lt_reading.specs.Reading.{in_table, both, led, choice, maybe}
use Rattle.lt_reading.specs.Language.{Level, formed, Language, none}
use Rattle.lt_reading.proofs.Exact.{Viable, Reads, Begins, heads_more}
use Rattle.lt_reading.proofs.OneToken.{Plain, table_reads}
use Rattle.lt_reading.proofs.Sequence.{Both, loose_reads}
use Rattle.lt_reading.proofs.Meaning.{given_reads}
use Rattle.lt_reading.proofs.Marked.{Led, led_reads}
use Rattle.lt_reading.proofs.Choice.{Choice, choice_reads}
use Rattle.lt_reading.proofs.Optional.{Maybe, maybe_reads}
use Rattle.lt_reading.proofs.Repeat.{ending, ending_free}
use Rattle.lt_reading.proofs.Listed.{Listed, Started, listed_reads}
use Rattle.lt_model.specs.Tokens.{Shape, word, symbol}
use Rattle.lt_model.specs.Grammar.{comma, left_paren, right_paren, where_word}
use Rattle.lt_grammar.specs.Tokens.{Text, same_shape, is_reserved, not_word, equals}
use Rattle.lt_model.specs.declared.syntax.Op.{Op}
use Rattle.lt_model.specs.declared.syntax.Op.TheVariants.{Eq, Ne, Lt, Le, Gt, Ge}
use Rattle.lt_grammar.specs.Grammar.{Term, name, numeral, quoted, Head, Literal, atom, absent, compare, sum, IsLiteral, IsWhere, term_tokens, op_token, plus_token, literal_tokens, where_tokens}
use Rattle.lt_grammar.specs.Productions.{is_word, name_at, constant_at, term_at, starts_term, terms_at, other_ops, all_ops, other_op_at, op_at, plus_table, plus_at, is_plus, is_left_paren, is_equals, Rest, equation_at, rest_at, is_not, starts_literal, head_at, literal_of, literal_at, body_at, is_where, where_of, where_at}
use Rattle.lt_grammar.proofs.Shapes.{marks, blamed, same_shape_is}
use Rattle.lt_grammar.proofs.Terms.{Names, names_read, Constants, constants_read, constants_no_word, constant_term, Terms, terms_read, terms_start, Arguments, arguments_read, Heads_, heads_read}

-- ---- signs of comparisons and sums

abbrev pub IsOther : Op → Type 0
IsOther Eq = ⊥
IsOther Ne = Unit {0}
IsOther Lt = Unit {0}
IsOther Le = Unit {0}
IsOther Gt = Unit {0}
IsOther Ge = Unit {0}

abbrev pub OtherOps : Language Shape Op
OtherOps = Plain op_token IsOther

other_in_table : (x : Op) → IsOther x → in_table same_shape other_ops (op_token x) ≡ Some x
other_in_table Eq h = absurd h
other_in_table Ne h = refl
other_in_table Lt h = refl
other_in_table Le h = refl
other_in_table Gt h = refl
other_in_table Ge h = refl

pub other_ops_read : Reads marks OtherOps other_op_at
unfolding other_op_at
other_ops_read = table_reads marks op_token IsOther other_ops ((refl, tt), ((refl, tt), ((refl, tt), ((refl, tt), ((refl, tt), tt))))) other_in_table Ne tt

abbrev pub Ops : Language Shape Op
Ops = Plain op_token (λ x. Unit {0})

op_in_table : (x : Op) → Unit {0} → in_table same_shape all_ops (op_token x) ≡ Some x
op_in_table Eq h = refl
op_in_table Ne h = refl
op_in_table Lt h = refl
op_in_table Le h = refl
op_in_table Gt h = refl
op_in_table Ge h = refl

pub ops_read : Reads marks Ops op_at
unfolding op_at
ops_read = table_reads marks op_token (λ x. Unit {0}) all_ops ((refl, tt), ((refl, tt), ((refl, tt), ((refl, tt), ((refl, tt), ((refl, tt), tt)))))) op_in_table Eq tt

abbrev pub Pluses : Language Shape Bool
Pluses = Plain plus_token (λ x. Unit {0})

plus_in_table : (x : Bool) → Unit {0} → in_table same_shape plus_table (plus_token x) ≡ Some x
plus_in_table false h = refl
plus_in_table true h = refl

pub pluses_read : Reads marks Pluses plus_at
unfolding plus_at
pluses_read = table_reads marks plus_token (λ x. Unit {0}) plus_table ((refl, tt), ((refl, tt), tt)) plus_in_table false tt

-- ---- what follows a name

abbrev pub Equations : Language Shape (Term × Option (Bool × Term))
Equations = Led equals (Both Terms (Maybe is_plus (Both Pluses Terms)))

plus_begins : Begins is_plus true (Both Pluses Terms)
plus_begins (false, t) h = refl
plus_begins (true, t) h = refl

pub equations_read : Reads marks Equations equation_at
unfolding equation_at
equations_read =
    led_reads marks equals (Both Terms (Maybe is_plus (Both Pluses Terms))) (both term_at (maybe is_plus (both plus_at term_at)))
    (loose_reads marks Terms term_at (Maybe is_plus (Both Pluses Terms)) (maybe is_plus (both plus_at term_at)) terms_read
    (maybe_reads marks is_plus (Both Pluses Terms) (both plus_at term_at) (loose_reads marks Pluses plus_at Terms term_at pluses_read terms_read (λ a t. refl)) plus_begins)
    (λ a t. refl))

abbrev pub Others : Language Shape (Op × Term)
Others = Both OtherOps Terms

abbrev pub Rests : Language Shape Rest
Rests = Choice Arguments (Choice Equations Others)

other_not_equals : Begins is_equals false Others
other_not_equals (Eq, t) h = absurd h.0
other_not_equals (Ne, t) h = refl
other_not_equals (Lt, t) h = refl
other_not_equals (Le, t) h = refl
other_not_equals (Gt, t) h = refl
other_not_equals (Ge, t) h = refl

not_paren : Begins is_left_paren false (Choice Equations Others)
not_paren (inl x) h = refl
not_paren (inr (Eq, t)) h = absurd h.0
not_paren (inr (Ne, t)) h = refl
not_paren (inr (Lt, t)) h = refl
not_paren (inr (Le, t)) h = refl
not_paren (inr (Gt, t)) h = refl
not_paren (inr (Ge, t)) h = refl

pub rests_read : Reads marks Rests rest_at
unfolding rest_at
rests_read =
    choice_reads marks is_left_paren Arguments terms_at (Choice Equations Others) (choice is_equals equation_at (both other_op_at term_at)) arguments_read
    (choice_reads marks is_equals Equations equation_at Others (both other_op_at term_at) equations_read (loose_reads marks OtherOps other_op_at Terms term_at other_ops_read terms_read (λ a t. refl)) (λ x h. refl) other_not_equals)
    (λ x h. refl) not_paren

-- ---- literals

abbrev pub literal_bars : Literal → Shape → Bool
literal_bars (compare (name v) Eq r) = is_plus
literal_bars _ = none

abbrev pub Literals : Language Shape Literal
Literals = record { spell = literal_tokens; Holds = IsLiteral; bars = literal_bars }

abbrev LiteralParts : Language Shape (Head ⊎ ((Text × Rest) ⊎ (Term × (Op × Term))))
LiteralParts = Choice (Led not_word Heads_) (Choice (Both Names Rests) (Both Constants (Both Ops Terms)))

abbrev pub named : Op → Term → Rest
named Eq r = inr (inl (r, None))
named Ne r = inr (inr (Ne, r))
named Lt r = inr (inr (Lt, r))
named Le r = inr (inr (Le, r))
named Gt r = inr (inr (Gt, r))
named Ge r = inr (inr (Ge, r))

abbrev pub literal_parts : Literal → Head ⊎ ((Text × Rest) ⊎ (Term × (Op × Term)))
literal_parts (atom h) = inr (inl (h.relation, inl (h.first, h.others)))
literal_parts (absent h) = inl h
literal_parts (compare (name v) op r) = inr (inl (v, named op r))
literal_parts (compare (numeral m digits) op r) = inr (inr (numeral m digits, (op, r)))
literal_parts (compare (quoted text) op r) = inr (inr (quoted text, (op, r)))
literal_parts (sum v a m b) = inr (inl (v, inr (inl (a, Some (m, b)))))

literal_same : (a : Head ⊎ ((Text × Rest) ⊎ (Term × (Op × Term)))) → LiteralParts.Holds formed a → literal_tokens (literal_of a) ≡ LiteralParts.spell a
literal_same (inl x) h = refl
literal_same (inr (inl (v, inl ts))) h = refl
literal_same (inr (inl (v, inr (inl (a, None))))) h = ap (λ (s : List Shape). word v ∷ (equals ∷ s)) (turned (append-nil (term_tokens a)))
literal_same (inr (inl (v, inr (inl (a, Some b))))) h = refl
literal_same (inr (inl (v, inr (inr (op, t))))) h = refl
literal_same (inr (inr (c, (op, t)))) h = refl

literal_bars_same : (a : Head ⊎ ((Text × Rest) ⊎ (Term × (Op × Term)))) → LiteralParts.Holds formed a → literal_bars (literal_of a) ≡ LiteralParts.bars a
literal_bars_same (inl x) h = refl
literal_bars_same (inr (inl (v, inl ts))) h = refl
literal_bars_same (inr (inl (v, inr (inl (a, None))))) h = refl
literal_bars_same (inr (inl (v, inr (inl (a, Some b))))) h = refl
literal_bars_same (inr (inl (v, inr (inr (Eq, t))))) h = absurd h.1.0
literal_bars_same (inr (inl (v, inr (inr (Ne, t))))) h = refl
literal_bars_same (inr (inl (v, inr (inr (Lt, t))))) h = refl
literal_bars_same (inr (inl (v, inr (inr (Le, t))))) h = refl
literal_bars_same (inr (inl (v, inr (inr (Gt, t))))) h = refl
literal_bars_same (inr (inl (v, inr (inr (Ge, t))))) h = refl
literal_bars_same (inr (inr (name x, (op, t)))) h = absurd h.0
literal_bars_same (inr (inr (numeral m x, (op, t)))) h = refl
literal_bars_same (inr (inr (quoted x, (op, t)))) h = refl

literal_is : (x : Literal) → literal_of (literal_parts x) ≡ x
literal_is (atom h) = refl
literal_is (absent h) = refl
literal_is (compare (name v) Eq r) = refl
literal_is (compare (name v) Ne r) = refl
literal_is (compare (name v) Lt r) = refl
literal_is (compare (name v) Le r) = refl
literal_is (compare (name v) Gt r) = refl
literal_is (compare (name v) Ge r) = refl
literal_is (compare (numeral m digits) op r) = refl
literal_is (compare (quoted text) op r) = refl
literal_is (sum v a m b) = refl

literal_to : (level : Level) (a : Head ⊎ ((Text × Rest) ⊎ (Term × (Op × Term)))) → LiteralParts.Holds level a → IsLiteral level (literal_of a)
literal_to level (inl x) h = h
literal_to level (inr (inl (v, inl ts))) h = h
literal_to level (inr (inl (v, inr (inl (a, None))))) h = (h.0, h.1.0)
literal_to level (inr (inl (v, inr (inl (a, Some b))))) h = (h.0, (h.1.0, h.1.1.1))
literal_to level (inr (inl (v, inr (inr (op, t))))) h = (h.0, h.1.1)
literal_to level (inr (inr (c, (op, t)))) h = (constant_term level c h.0, h.1.1)

literal_from : (level : Level) (x : Literal) → IsLiteral level x → LiteralParts.Holds level (literal_parts x)
literal_from level (atom h) k = k
literal_from level (absent h) k = k
literal_from level (compare (name v) Eq r) h = (h.0, (h.1, tt))
literal_from level (compare (name v) Ne r) h = (h.0, (tt, h.1))
literal_from level (compare (name v) Lt r) h = (h.0, (tt, h.1))
literal_from level (compare (name v) Le r) h = (h.0, (tt, h.1))
literal_from level (compare (name v) Gt r) h = (h.0, (tt, h.1))
literal_from level (compare (name v) Ge r) h = (h.0, (tt, h.1))
literal_from level (compare (numeral m digits) op r) h = (h.0, (tt, h.1))
literal_from level (compare (quoted text) op r) h = (h.0, (tt, h.1))
literal_from level (sum v a m b) h = (h.0, (h.1.0, (tt, h.1.1)))

constant_first : Begins is_word false (Both Constants (Both Ops Terms))
constant_first (c, x) h = heads_more is_word false (Constants.spell c) (op_token x.0 ∷ term_tokens x.1) (constants_no_word c h.0)

not_reserved : (x : Text) → is_reserved x ≡ false → is_not (word x) ≡ false
not_reserved x h = elim (is_not (word x)) as (λ b. is_not (word x) ≡ b → b ≡ false) [
  | true ↦ λ e. absurd (true≢false (sym_of (ap is_reserved (same_text x e)) ∙ h))
  | false ↦ λ e. refl
] refl
  where
    same_text : (x : Text) → is_not (word x) ≡ true → x ≡ codes "not"
    same_text x e = (bytes_eq-Decides x (codes "not")).0 e

    sym_of : {a b : Bool} → a ≡ b → b ≡ a
    sym_of e = turned e

not_first : Begins is_not false (Choice (Both Names Rests) (Both Constants (Both Ops Terms)))
not_first (inl (v, x)) h = not_reserved v h.0
not_first (inr (c, x)) h = heads_more is_not false (Constants.spell c) (op_token x.0 ∷ term_tokens x.1) (constants_no_not c h.0)
  where
    constants_no_not : Begins is_not false Constants
    constants_no_not (name x) h = absurd h
    constants_no_not (numeral true x) h = refl
    constants_no_not (numeral false x) h = refl
    constants_no_not (quoted x) h = refl

pub literals_read : Reads marks Literals literal_at
unfolding literal_at
literals_read =
    given_reads marks literal_of literal_parts LiteralParts (choice is_not (led same_shape not_word head_at) (choice is_word (both name_at rest_at) (both constant_at (both op_at term_at)))) Literals
    (choice_reads marks is_not (Led not_word Heads_) (led same_shape not_word head_at) (Choice (Both Names Rests) (Both Constants (Both Ops Terms))) (choice is_word (both name_at rest_at) (both constant_at (both op_at term_at)))
    (led_reads marks not_word Heads_ head_at heads_read)
    (choice_reads marks is_word (Both Names Rests) (both name_at rest_at) (Both Constants (Both Ops Terms)) (both constant_at (both op_at term_at))
    (loose_reads marks Names name_at Rests rest_at names_read rests_read (λ a t. refl))
    (loose_reads marks Constants constant_at (Both Ops Terms) (both op_at term_at) constants_read (loose_reads marks Ops op_at Terms term_at ops_read terms_read (λ a t. refl)) (λ a t. refl))
    (λ x h. refl) constant_first)
    (λ x h. refl) not_first)
    (record { same = literal_same; bars = literal_bars_same; is = λ level x h. literal_is x; to = literal_to; from = literal_from })

either_way : (t : Shape) → starts_term t ≡ true → starts_literal t ≡ true
either_way t h = elim (is_not t) as (λ b. cond b true (starts_term t) ≡ true) [ true ↦ refl | false ↦ h ]

pub literals_begin : Begins starts_literal true Literals
literals_begin (atom k) h = either_way (word k.relation) (rw h.0 refl)
literals_begin (absent k) h = refl
literals_begin (compare left op right) h = heads_more starts_literal true (term_tokens left) (op_token op ∷ term_tokens right) (begins left h.0)
  where
    begins : Begins starts_literal true Terms
    begins (name x) h = either_way (word x) (rw h refl)
    begins (numeral true x) h = refl
    begins (numeral false x) h = refl
    begins (quoted x) h = refl
literals_begin (sum v a m b) h = either_way (word v) (rw h.0 refl)

literals_start_term : Started starts_term Literals
literals_start_term t h =
    let v = terms_start t h in
    record { value = compare v.value Eq (quoted []); more = v.more ++ (equals ∷ (symbol [] ∷ [])); holds = (v.holds, tt); begins = ap (λ (s : List Shape). s ++ (equals ∷ (symbol [] ∷ []))) v.begins }

pub literals_start : Started starts_literal Literals
literals_start t h = elim (is_not t) as (λ b. is_not t ≡ b → cond b true (starts_term t) ≡ true → Viable Literals formed (t ∷ [])) [
  | true ↦ λ e k. record { value = absent (record { relation = []; first = quoted []; others = [] }); more = word [] ∷ (left_paren ∷ (symbol [] ∷ (right_paren ∷ []))); holds = (refl, ((tt, (tt, tt)))); begins = ap (λ (s : Shape). s ∷ (word [] ∷ (left_paren ∷ (symbol [] ∷ (right_paren ∷ []))))) (turned (same_shape_is t not_word e)) }
  | false ↦ λ e k. literals_start_term t k
] refl h

-- only a plus or a minus is barred behind a literal
pub literals_free : (x : Literal) (t : Shape) → is_plus t ≡ false → literal_bars x t ≡ false
literals_free (atom h) t p = refl
literals_free (absent h) t p = refl
literals_free (compare (name v) Eq r) t p = p
literals_free (compare (name v) Ne r) t p = refl
literals_free (compare (name v) Lt r) t p = refl
literals_free (compare (name v) Le r) t p = refl
literals_free (compare (name v) Gt r) t p = refl
literals_free (compare (name v) Ge r) t p = refl
literals_free (compare (numeral m digits) op r) t p = refl
literals_free (compare (quoted text) op r) t p = refl
literals_free (sum v a m b) t p = refl

-- ---- bodies

abbrev pub Bodies : Language Shape (Literal × List Literal)
Bodies = Listed marks Literals 15

pub bodies_read : Reads marks Bodies body_at
unfolding body_at
bodies_read = listed_reads marks starts_literal Literals literal_at literals_read literals_begin literals_start (blamed starts_literal refl refl) (λ x. literals_free x comma refl) 15

abbrev pub body_bars : Literal → List Literal → Shape → Bool
body_bars l ls = ending (λ t. same_shape t comma) literal_bars (literal_bars l) ls

pub bodies_free : (l : Literal) (ls : List Literal) (t : Shape) → same_shape t comma ≡ false → is_plus t ≡ false → body_bars l ls t ≡ false
bodies_free l ls t c p = ending_free (λ t. same_shape t comma) literal_bars (literal_bars l) ls t c (λ x. literals_free x t p) (literals_free l t p)

-- ---- `where` and a body, or nothing

abbrev pub where_bars : List Literal → Shape → Bool
where_bars [] = is_where
where_bars (l ∷ ls) = body_bars l ls

abbrev pub Wheres : Language Shape (List Literal)
Wheres = record { spell = where_tokens; Holds = IsWhere; bars = where_bars }

abbrev pub where_parts : List Literal → Option (Literal × List Literal)
where_parts [] = None
where_parts (l ∷ ls) = Some (l, ls)

where_same : (a : Option (Literal × List Literal)) → (Maybe is_where (Led where_word Bodies)).Holds formed a → where_tokens (where_of a) ≡ (Maybe is_where (Led where_word Bodies)).spell a
where_same None h = refl
where_same (Some ls) h = refl

where_bars_same : (a : Option (Literal × List Literal)) → (Maybe is_where (Led where_word Bodies)).Holds formed a → where_bars (where_of a) ≡ (Maybe is_where (Led where_word Bodies)).bars a
where_bars_same None h = refl
where_bars_same (Some ls) h = refl

where_is : (x : List Literal) → where_of (where_parts x) ≡ x
where_is [] = refl
where_is (l ∷ ls) = refl

where_to : (level : Level) (a : Option (Literal × List Literal)) → (Maybe is_where (Led where_word Bodies)).Holds level a → IsWhere level (where_of a)
where_to level None h = tt
where_to level (Some ls) h = h

where_from : (level : Level) (x : List Literal) → IsWhere level x → (Maybe is_where (Led where_word Bodies)).Holds level (where_parts x)
where_from level [] h = tt
where_from level (l ∷ ls) h = h

pub wheres_read : Reads marks Wheres where_at
unfolding where_at
wheres_read =
    given_reads marks where_of where_parts (Maybe is_where (Led where_word Bodies)) (maybe is_where (led same_shape where_word body_at)) Wheres
    (maybe_reads marks is_where (Led where_word Bodies) (led same_shape where_word body_at) (led_reads marks where_word Bodies body_at bodies_read) (λ x h. refl))
    (record { same = where_same; bars = where_bars_same; is = λ level x h. where_is x; to = where_to; from = where_from })

pub wheres_free : (ls : List Literal) (t : Shape) → is_where t ≡ false → same_shape t comma ≡ false → is_plus t ≡ false → where_bars ls t ≡ false
wheres_free [] t w c p = w
wheres_free (l ∷ ls) t w c p = bodies_free l ls t c p
