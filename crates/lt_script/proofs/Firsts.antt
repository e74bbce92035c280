-- From the first token to the division.
use Rattle.std.proofs.Common.{◌≡◌, ◌≢◌, ℕ, ◌<◌, ◌≤◌, List, ◌∷◌, refl, arith}
use Rattle.lt_model.specs.Tokens.{class_of, Class, letter, digit, quote, other, tokens_at, more, First, word_at, number_at, symbol_at, sign_at, by_class}
use Rattle.lt_model.proofs.Division.{next_tokens}
use Rattle.lt_script.specs.declared.lexer.Lexed.{Lexed}
use Rattle.lt_script.specs.declared.lexer.Lexed.TheVariants.{Token as One, End, Broken}
use Rattle.lt_script.specs.View.{IsFirst, IsNext, IsOther}

pub letter_class : (b : ℕ) → 97 ≤ b → b ≤ 122 → class_of b ≡ letter
letter_class b low high = Prim.grind arith

pub digit_class : (b : ℕ) → 48 ≤ b → b ≤ 57 → class_of b ≡ digit
digit_class b low high = Prim.grind arith

next_more : (r : Lexed) (line : ℕ) (left : List ℕ) (first : First) → IsFirst r line left first → IsNext r line left (more tokens_at line first)
next_more (One t) line left first h = rw (h.0, h.1) refl
next_more End line left first h = absurd h
next_more (Broken c) line left first h = rw h refl

pub next_by : (r : Lexed) (line b : ℕ) (bytes left : List ℕ) (c : Class) (first : First) → class_of b ≡ c → by_class tokens_at line b bytes c ≡ more tokens_at line first → IsFirst r line left first → IsNext r line left (tokens_at line (b ∷ bytes))
next_by r line b bytes left c first is same h = rw (next_tokens line b bytes c is, same) (next_more r line left first h)

pub next_letter : (r : Lexed) (line b : ℕ) (bytes left : List ℕ) → 97 ≤ b → b ≤ 122 → IsFirst r line left (word_at (b ∷ bytes)) → IsNext r line left (tokens_at line (b ∷ bytes))
next_letter r line b bytes left low high h = next_by r line b bytes left letter (word_at (b ∷ bytes)) (letter_class b low high) refl h

pub next_line : (r : Lexed) (line : ℕ) (bytes left : List ℕ) → IsFirst r line left (word_at (95 ∷ bytes)) → IsNext r line left (tokens_at line (95 ∷ bytes))
next_line r line bytes left h = next_by r line 95 bytes left letter (word_at (95 ∷ bytes)) refl refl h

pub next_digit : (r : Lexed) (line b : ℕ) (bytes left : List ℕ) → 48 ≤ b → b ≤ 57 → IsFirst r line left (number_at (b ∷ bytes)) → IsNext r line left (tokens_at line (b ∷ bytes))
next_digit r line b bytes left low high h = next_by r line b bytes left digit (number_at (b ∷ bytes)) (digit_class b low high) refl h

pub next_quote : (r : Lexed) (line : ℕ) (bytes left : List ℕ) → IsFirst r line left (symbol_at bytes) → IsNext r line left (tokens_at line (39 ∷ bytes))
next_quote r line bytes left h = next_by r line 39 bytes left quote (symbol_at bytes) refl refl h

pub other_class : (b : ℕ) → IsOther (class_of b) → b ≢ 39 → b ≢ 95 → (97 ≤ b → 122 < b) → (48 ≤ b → 57 < b) → class_of b ≡ other
other_class b h not_quote not_line letters digits = Prim.grind arith

pub next_other : (r : Lexed) (line b : ℕ) (bytes left : List ℕ) → IsOther (class_of b) → b ≢ 39 → b ≢ 95 → (97 ≤ b → 122 < b) → (48 ≤ b → 57 < b) → IsFirst r line left (sign_at (b ∷ bytes)) → IsNext r line left (tokens_at line (b ∷ bytes))
next_other r line b bytes left is not_quote not_line letters digits h = next_by r line b bytes left other (sign_at (b ∷ bytes)) (other_class b is not_quote not_line letters digits) refl h
