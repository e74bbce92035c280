-- Names, numbers, symbols, terms, arguments and heads are read exactly.
use Rattle.std.proofs.Common.{◌≡◌, ◌<◌, Bool, true, false, cond, ltb, List, [], ◌∷◌, Some, None, refl, sym as turned, ap, ◌∙◌, inl, inr, ◌⊎◌, lit<}
use Rattle.std.proofs.lemmas.Bool.{ltb-true, lt-ltb}
use Rattle.lt_reading.specs.Reading.{both, led, choice, listed}
use Rattle.lt_reading.specs.Language.{Level, formed, few, fine, full, below, InRange, Language, none}
use Rattle.lt_reading.proofs.Exact.{Reads, Begins}
use Rattle.lt_reading.proofs.OneToken.{one_reads, Plain, plain_reads}
use Rattle.lt_reading.proofs.Sequence.{Both, loose_reads}
use Rattle.lt_reading.proofs.Meaning.{given_reads}
use Rattle.lt_reading.proofs.Marked.{Led, Between, led_reads, between_reads}
use Rattle.lt_reading.proofs.Choice.{Choice, choice_reads}
use Rattle.lt_reading.proofs.Repeat.{ending_free}
use Rattle.lt_reading.proofs.Listed.{Listed, Started, listed_reads}
use Rattle.lt_model.specs.Tokens.{Shape, word, number, symbol, sign}
use Rattle.lt_model.specs.Grammar.{comma, left_paren, right_paren, digits_value}
use Rattle.lt_grammar.specs.Tokens.{Text, same_shape, is_reserved, minus}
use Rattle.lt_grammar.specs.Grammar.{Term, name, numeral, quoted, Head, IsName, IsTerm, IsHead, past, term_tokens, head_tokens}
use Rattle.lt_grammar.specs.Productions.{is_word, is_number, is_minus, name_of, digits_of, quoted_of, name_at, number_at, quoted_at, constant_of, term_of, constant_at, term_at, starts_term, terms_at, head_of, head_at}
use Rattle.lt_grammar.proofs.Shapes.{marks, blamed, same_shape_is}

-- ---- names

abbrev pub Names : Language Shape Text
Names = Plain word IsName

name_means_one : (b : Bool) (x y : Text) → is_reserved x ≡ b → cond b None (Some x) ≡ Some y → (word x ≡ word y) × IsName y
name_means_one true x y r e = absurd cc
name_means_one false x y r e = let same : x ≡ y = cc in (ap word same, ap is_reserved (turned same) ∙ r)

name_means : (t : Shape) (y : Text) → name_of t ≡ Some y → (t ≡ word y) × IsName y
name_means (word x) y e = name_means_one (is_reserved x) x y refl e
name_means (number x) y e = absurd cc
name_means (symbol x) y e = absurd cc
name_means (sign x) y e = absurd cc

pub names_read : Reads marks Names name_at
names_read = plain_reads marks word IsName name_of name_means (λ x h. rw h refl) [] refl

-- ---- numbers, without a sign or behind a minus

abbrev pub Numbers : Bool → Language Shape Text
Numbers m = record { spell = λ x. number x ∷ []; Holds = λ level x. InRange level (digits_value x < past m); bars = λ x. none }

digits_mean : (t : Shape) (y : Text) → digits_of t ≡ Some y → (t ≡ number y) × Unit {0}
digits_mean (number x) y e = (let same : x ≡ y = cc in ap number same, tt)
digits_mean (word x) y e = absurd cc
digits_mean (symbol x) y e = absurd cc
digits_mean (sign x) y e = absurd cc

in_range_below : (P : Type 0) (level : Level) → InRange level P → InRange (below level) P
in_range_below P formed h = tt
in_range_below P few h = tt
in_range_below P fine h = tt
in_range_below P full h = h

zero_fits : (m : Bool) → digits_value [] < past m
zero_fits false = lit< tt
zero_fits true = lit< tt

pub numbers_read : (m : Bool) → Reads marks (Numbers m) (number_at m)
numbers_read m = one_reads marks digits_of (λ d. ltb (digits_value d) (past m)) (Numbers m) (record {
  shape = number;
  spelled = λ x. refl;
  bars = λ x. refl;
  weaken = λ level x. in_range_below (digits_value x < past m) level;
  means = digits_mean;
  holds = λ x h. refl;
  fits = λ x h w. ltb-true _ _ w;
  fine_fits = λ x h. lt-ltb _ _ h;
  numbers = λ x h. (x, refl);
  sample = [];
  sample_holds = zero_fits m;
})

-- ---- symbols

abbrev pub Quotes : Language Shape Text
Quotes = Plain symbol (λ x. Unit {0})

quoted_means : (t : Shape) (y : Text) → quoted_of t ≡ Some y → (t ≡ symbol y) × Unit {0}
quoted_means (symbol x) y e = (let same : x ≡ y = cc in ap symbol same, tt)
quoted_means (word x) y e = absurd cc
quoted_means (number x) y e = absurd cc
quoted_means (sign x) y e = absurd cc

pub quotes_read : Reads marks Quotes quoted_at
quotes_read = plain_reads marks symbol (λ x. Unit {0}) quoted_of quoted_means (λ x h. refl) [] tt

-- ---- constants: terms that are no names

abbrev pub IsConstant : Level → Term → Type 0
IsConstant level (name x) = ⊥
IsConstant level (numeral m x) = IsTerm level (numeral m x)
IsConstant level (quoted x) = Unit {0}

abbrev pub Constants : Language Shape Term
Constants = record { spell = term_tokens; Holds = IsConstant; bars = λ x. none }

abbrev ConstantParts : Language Shape (Text ⊎ (Text ⊎ Text))
ConstantParts = Choice (Led minus (Numbers true)) (Choice (Numbers false) Quotes)

abbrev pub constant_parts : Term → Text ⊎ (Text ⊎ Text)
constant_parts (name x) = inr (inr x)
constant_parts (numeral true x) = inl x
constant_parts (numeral false x) = inr (inl x)
constant_parts (quoted x) = inr (inr x)

not_minus : Begins is_minus false (Choice (Numbers false) Quotes)
not_minus (inl x) h = refl
not_minus (inr x) h = refl

constant_same : (a : Text ⊎ (Text ⊎ Text)) → ConstantParts.Holds formed a → term_tokens (constant_of a) ≡ ConstantParts.spell a
constant_same (inl x) h = refl
constant_same (inr (inl x)) h = refl
constant_same (inr (inr x)) h = refl

constant_bars : (a : Text ⊎ (Text ⊎ Text)) → ConstantParts.Holds formed a → Constants.bars (constant_of a) ≡ ConstantParts.bars a
constant_bars (inl x) h = refl
constant_bars (inr (inl x)) h = refl
constant_bars (inr (inr x)) h = refl

constant_is : (level : Level) (x : Term) → IsConstant level x → constant_of (constant_parts x) ≡ x
constant_is level (name x) h = absurd h
constant_is level (numeral true x) h = refl
constant_is level (numeral false x) h = refl
constant_is level (quoted x) h = refl

constant_to : (level : Level) (a : Text ⊎ (Text ⊎ Text)) → ConstantParts.Holds level a → IsConstant level (constant_of a)
constant_to level (inl x) h = h
constant_to level (inr (inl x)) h = h
constant_to level (inr (inr x)) h = h

constant_from : (level : Level) (x : Term) → IsConstant level x → ConstantParts.Holds level (constant_parts x)
constant_from level (name x) h = absurd h
constant_from level (numeral true x) h = h
constant_from level (numeral false x) h = h
constant_from level (quoted x) h = h

pub constants_read : Reads marks Constants constant_at
unfolding constant_at
constants_read =
    given_reads marks constant_of constant_parts ConstantParts (choice is_minus (led same_shape minus (number_at true)) (choice is_number (number_at false) quoted_at)) Constants
    (choice_reads marks is_minus (Led minus (Numbers true)) (led same_shape minus (number_at true)) (Choice (Numbers false) Quotes) (choice is_number (number_at false) quoted_at)
    (led_reads marks minus (Numbers true) (number_at true) (numbers_read true))
    (choice_reads marks is_number (Numbers false) (number_at false) Quotes quoted_at (numbers_read false) quotes_read (λ x h. refl) (λ x h. refl))
    (λ x h. refl) not_minus)
    (record { same = constant_same; bars = constant_bars; is = constant_is; to = constant_to; from = constant_from })

pub constants_no_word : Begins is_word false Constants
constants_no_word (name x) h = absurd h
constants_no_word (numeral true x) h = refl
constants_no_word (numeral false x) h = refl
constants_no_word (quoted x) h = refl

-- ---- terms

abbrev pub Terms : Language Shape Term
Terms = record { spell = term_tokens; Holds = IsTerm; bars = λ x. none }

abbrev pub term_parts : Term → Text ⊎ Term
term_parts (name x) = inl x
term_parts (numeral m x) = inr (numeral m x)
term_parts (quoted x) = inr (quoted x)

term_same : (a : Text ⊎ Term) → (Choice Names Constants).Holds formed a → term_tokens (term_of a) ≡ (Choice Names Constants).spell a
term_same (inl x) h = refl
term_same (inr x) h = refl

term_bars : (a : Text ⊎ Term) → (Choice Names Constants).Holds formed a → Terms.bars (term_of a) ≡ (Choice Names Constants).bars a
term_bars (inl x) h = refl
term_bars (inr x) h = refl

term_is : (x : Term) → term_of (term_parts x) ≡ x
term_is (name x) = refl
term_is (numeral m x) = refl
term_is (quoted x) = refl

pub constant_term : (level : Level) (x : Term) → IsConstant level x → IsTerm level x
constant_term level (name x) h = absurd h
constant_term level (numeral m x) h = h
constant_term level (quoted x) h = h

term_to : (level : Level) (a : Text ⊎ Term) → (Choice Names Constants).Holds level a → IsTerm level (term_of a)
term_to level (inl x) h = h
term_to level (inr x) h = constant_term level x h

term_from : (level : Level) (x : Term) → IsTerm level x → (Choice Names Constants).Holds level (term_parts x)
term_from level (name x) h = h
term_from level (numeral m x) h = h
term_from level (quoted x) h = h

pub terms_read : Reads marks Terms term_at
unfolding term_at
terms_read =
    given_reads marks term_of term_parts (Choice Names Constants) (choice is_word name_at constant_at) Terms
    (choice_reads marks is_word Names name_at Constants constant_at names_read constants_read (λ x h. refl) constants_no_word)
    (record { same = term_same; bars = term_bars; is = λ level x h. term_is x; to = term_to; from = term_from })

pub terms_begin : Begins starts_term true Terms
terms_begin (name x) h = rw h refl
terms_begin (numeral true x) h = refl
terms_begin (numeral false x) h = refl
terms_begin (quoted x) h = refl

unreserved : (b : Bool) → cond b false true ≡ true → b ≡ false
unreserved true h = absurd cc
unreserved false h = refl

pub terms_start : Started starts_term Terms
terms_start (word x) h = record { value = name x; more = []; holds = unreserved (is_reserved x) h; begins = refl }
terms_start (number x) h = record { value = numeral false x; more = []; holds = tt; begins = refl }
terms_start (symbol x) h = record { value = quoted x; more = []; holds = tt; begins = refl }
terms_start (sign x) h = record { value = numeral true []; more = number [] ∷ []; holds = tt; begins = ap (λ (s : Shape). s ∷ (number [] ∷ [])) (turned (same_shape_is (sign x) minus h)) }

-- ---- arguments

abbrev pub Arguments : Language Shape (Term × List Term)
Arguments = Between left_paren right_paren (Listed marks Terms 7)

pub arguments_read : Reads marks Arguments terms_at
unfolding terms_at
arguments_read =
    between_reads marks left_paren right_paren (Listed marks Terms 7) (listed same_shape comma starts_term term_at 7)
    (listed_reads marks starts_term Terms term_at terms_read terms_begin terms_start (blamed starts_term refl refl) (λ x. refl) 7)
    (λ x. ending_free (λ t. same_shape t comma) Terms.bars none x.1 right_paren refl (λ y. refl) refl)

-- ---- heads

abbrev pub Heads_ : Language Shape Head
Heads_ = record { spell = head_tokens; Holds = IsHead; bars = λ x. none }

abbrev pub head_parts : Head → Text × (Term × List Term)
head_parts h = (h.relation, (h.first, h.others))

pub heads_read : Reads marks Heads_ head_at
unfolding head_at
heads_read =
    given_reads marks head_of head_parts (Both Names Arguments) (both name_at terms_at) Heads_
    (loose_reads marks Names name_at Arguments terms_at names_read arguments_read (λ a t. refl))
    (record { same = λ a h. refl; bars = λ a h. refl; is = λ level x h. refl; to = λ level a h. h; from = λ level x h. h })
