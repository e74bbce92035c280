-- Bytes behind which more may come: which of their tokens are decided.
use Rattle.std.specs.Prelude.{◌≡◌, ◌≢◌, ◌⊎◌, ℕ, List, [], ◌∷◌, ◌++◌, Bool, true, false, not, ◌==◌, ◌||◌, Option, Some, None}
use Rattle.std.specs.List.{list_all}
use Rattle.lt_script.specs.declared.lexer.Lexed.{Lexed}
use Rattle.lt_script.specs.declared.lexer.Lexed.TheVariants.{Token as One, End, Broken}
use Rattle.lt_script.specs.View.{shape}
use Rattle.lt_model.specs.Tokens.{Token, token, fault, Class, white, feed, hash, letter, digit, quote, other, class_of, in_word, is_digit, First, word_at, number_at, symbol_at, sign_at, tokens_at}

-- Whatever comes behind these bytes, they are these tokens, and then those of the bytes that are left, from a line on.
abbrev pub Leads : ℕ → List ℕ → List Token → ℕ → List ℕ → Type 0
Leads line bytes ts after left = (more : List ℕ) → tokens_at line (bytes ++ more) ≡ (ts ++ (tokens_at after (left ++ more)).0, (tokens_at after (left ++ more)).1)

-- the same byte, or a digit for a digit
abbrev pub IsLike : ℕ → ℕ → Type 0
IsLike b c = (c ≡ b) ⊎ ((is_digit b ≡ true) × (is_digit c ≡ true))

-- these bytes begin as those that are left do, or in any way where none is left
abbrev pub BeginsAs : List ℕ → List ℕ → Type 0
BeginsAs [] bytes = Unit {0}
BeginsAs (b ∷ left) bytes = (c : ℕ) × (others : List ℕ) × (bytes ≡ c ∷ others) × IsLike b c

-- Where bytes come behind this front that begin as those that are left do, the front is these tokens, and theirs follow, from a line on.
unfoldable pub Passes : ℕ → List ℕ → List Token → ℕ → List ℕ → Type 0
Passes line front ts after left = (bytes : List ℕ) → BeginsAs left bytes → tokens_at line (front ++ bytes) ≡ (ts ++ (tokens_at after bytes).0, (tokens_at after bytes).1)

-- whether this is a sign, or a byte of one, with which a longer sign begins
abbrev pub begins_longer : ℕ → List ℕ → Bool
begins_longer b [] = (b == 33) || (b == 45) || (b == 60) || (b == 62)
begins_longer b (c ∷ bytes) = false

abbrev pub goes_on_by : Class → ℕ → List ℕ → Bool
goes_on_by white b bytes = false
goes_on_by feed b bytes = false
goes_on_by hash b bytes = list_all (λ c. not (c == 10)) bytes
goes_on_by letter b bytes = list_all in_word (b ∷ bytes)
goes_on_by digit b bytes = list_all is_digit (b ∷ bytes)
goes_on_by quote b bytes = list_all in_word bytes
goes_on_by other b bytes = begins_longer b bytes

-- Whether these bytes are nothing, or one token or comment that more bytes may make longer: no token of them is decided.
abbrev pub goes_on : List ℕ → Bool
goes_on [] = true
goes_on (b ∷ bytes) = goes_on_by (class_of b) b bytes

abbrev pub first_by : Class → ℕ → List ℕ → Option First
first_by white b bytes = None
first_by feed b bytes = None
first_by hash b bytes = None
first_by letter b bytes = Some (word_at (b ∷ bytes))
first_by digit b bytes = Some (number_at (b ∷ bytes))
first_by quote b bytes = Some (symbol_at bytes)
first_by other b bytes = Some (sign_at (b ∷ bytes))

-- the token with which bytes begin, where no white space and no comment stands first
abbrev pub first_at : List ℕ → Option First
first_at [] = None
first_at (b ∷ bytes) = first_by (class_of b) b bytes

-- these are the last of the bytes
pub record IsBack (left bytes : List ℕ) : Type 0 where
  pub front : List ℕ
  pub parts : bytes ≡ front ++ left

-- Over white space and comments that stand first: to where a token begins, or to a comment that isn't ended.
pub record Skipped (line : ℕ) (bytes : List ℕ) (after : ℕ) (left : List ℕ) : Type 0 where
  pub tail : List ℕ
  pub back : IsBack tail bytes
  pub passes : Passes line back.front [] after tail
  pub same : left ≢ [] → tail ≡ left
  pub ends : left ≡ [] → goes_on tail ≡ true

-- what was found where the next token begins: a token, and the bytes behind it; nothing that is decided; or a fault
abbrev pub IsFound : Lexed → ℕ → List ℕ → List ℕ → Type 0
IsFound (One t) line tail left = (first_at tail ≡ Some (token (shape t) left)) × (t.line ≡ line)
IsFound End line tail left = goes_on tail ≡ true
IsFound (Broken code) line tail left = first_at tail ≡ Some (fault code)

-- the way to the next token, and what was found there
pub record Opened (found : Lexed) (line : ℕ) (bytes : List ℕ) (after : ℕ) (left : List ℕ) : Type 0 where
  pub tail : List ℕ
  pub back : IsBack tail bytes
  pub passes : Passes line back.front [] after tail
  pub is : IsFound found after tail left
