-- Where the constants of a statement's text stand, by the tokens before them.
use Rattle.std.specs.Prelude.{◌≡◌, ◌≢◌, ℕ, ◌+◌, ◌-◌, ◌≤◌, true, List, [], ◌∷◌, ◌++◌, length, take, drop, IsTrue, Option, Some, None}
use Rattle.std.specs.List.{AllByRecursion, list_all}
use Rattle.lt_model.specs.Alike.{Before, plain, negative, ended, after_all, is_negative}
use Rattle.lt_model.specs.Script as script
use Rattle.lt_model.specs.Tokens.{Shape, Token, Read, word, number, symbol, sign, is_digit, in_word, tokens_at}
use Rattle.lt_script.specs.declared.slots.Before as kept
use Rattle.lt_script.specs.declared.slots.Before.TheVariants.{Term, Minus, Other}
use Rattle.lt_script.specs.declared.slots.Blank.{Blank}
use Rattle.lt_script.specs.declared.slots.Blank.TheVariants.{Number, Symbol}
use Rattle.lt_script.specs.declared.slots.Slot.{Slot}
use Rattle.lt_script.specs.Pieces.{Passes}

-- On whatever line they begin and whatever comes behind them, the bytes are these tokens, and go so many lines down.
abbrev pub Divides : List ℕ → ℕ → List Shape → Type 0
Divides bytes lines tokens = (line : ℕ) → (ts : List Token) × Passes line bytes ts (line + lines) [] × (script.shapes ts ≡ tokens)

-- the bytes are tokens whatever comes behind them, and end with a semicolon
abbrev pub IsDivided : List ℕ → Type 0
IsDivided bytes = (lines : ℕ) × (tokens : List Shape) × Divides bytes lines tokens × ((front : List ℕ) × (bytes ≡ front ++ 59 ∷ []))

abbrev pub IsNoConstant : Shape → Type 0
IsNoConstant (word x) = Unit {0}
IsNoConstant (number digits) = ⊥
IsNoConstant (symbol text) = ⊥
IsNoConstant (sign x) = Unit {0}

-- what may be written at a constant's place
abbrev pub IsWritten : Blank → List ℕ → Type 0
IsWritten (Number minus) text = (text ≢ []) × IsTrue (list_all is_digit text)
IsWritten Symbol text = (1 ≤ length text) × (length text ≤ 15) × IsTrue (list_all in_word text)

abbrev pub constant_shape : Blank → List ℕ → Shape
constant_shape (Number minus) text = number text
constant_shape Symbol text = symbol text

-- a byte that is no digit stands first
abbrev pub StopsDigits : List ℕ → Type 0
StopsDigits [] = ⊥
StopsDigits (b ∷ bytes) = is_digit b ≢ true

-- The bytes end a constant that stands before them, and this is left of them: behind digits all, behind a symbol what comes
-- behind its last quote.
abbrev pub Closes : Blank → List ℕ → List ℕ → Type 0
Closes (Number minus) bytes left = (bytes ≡ left) × StopsDigits left
Closes Symbol bytes left = bytes ≡ 39 ∷ left

-- the same where no constant may stand before
abbrev pub ClosesLast : Option Blank → List ℕ → List ℕ → Type 0
ClosesLast None bytes left = bytes ≡ left
ClosesLast (Some blank) bytes left = Closes blank bytes left

abbrev pub before_behind : Option Blank → Before
before_behind None = plain
before_behind (Some blank) = ended

-- these tokens, one more of this shape, and what was read behind it
abbrev pub with_constant : List Token → Shape → ℕ → Read → Read
with_constant ts s line read = (ts ++ (record { shape = s; line = line } ∷ read.0), read.1)

-- Whatever constant of this blank comes behind them, the bytes are these tokens and then the constant, and go so many lines down. A
-- symbol's first quote is theirs.
abbrev pub IsChunk : Blank → List ℕ → List Shape → ℕ → Type 0
IsChunk blank chunk tokens lines =
    (line : ℕ) → (ts : List Token) × (script.shapes ts ≡ tokens)
    × ((constant behind left : List ℕ) → IsWritten blank constant → Closes blank behind left
    → tokens_at line (chunk ++ (constant ++ behind)) ≡ with_constant ts (constant_shape blank constant) (line + lines) (tokens_at (line + lines) left))

-- a number's minus is told from the tokens before it
abbrev pub IsToldBy : Before → Blank → Type 0
IsToldBy b (Number minus) = minus ≡ is_negative b
IsToldBy b Symbol = Unit {0}

-- The first slot of a text that stands behind a constant or at the beginning, and so many lines down: tokens before it that are no
-- constants, and what is written there.
pub record IsPlaced (last : Option Blank) (slot : Slot) (text : List ℕ) (lines : ℕ) : Type 0 where
  pub chunk : List ℕ
  pub tokens : List Shape
  pub closes : ClosesLast last (take slot.before text) chunk
  pub others : AllByRecursion IsNoConstant tokens
  pub chunked : IsChunk slot.blank chunk tokens lines
  pub told : IsToldBy (after_all (before_behind last) tokens) slot.blank
  pub written : IsWritten slot.blank (take slot.len (drop slot.before text))

-- The slots of a text that stands behind a constant or at the beginning, over so many lines.
abbrev pub ArePlacedFrom : Option Blank → List Slot → List ℕ → ℕ → Type 0
ArePlacedFrom last [] text lines = (left : List ℕ) × (tokens : List Shape) × ClosesLast last text left × Divides left lines tokens × AllByRecursion IsNoConstant tokens
ArePlacedFrom last (slot ∷ slots) text lines = (here behind : ℕ) × (lines ≡ here + behind) × IsPlaced last slot text here × ArePlacedFrom (Some slot.blank) slots (drop (slot.before + slot.len) text) behind

abbrev pub ArePlaced : List Slot → List ℕ → Type 0
ArePlaced slots text = (lines : ℕ) × ArePlacedFrom None slots text lines

-- ---- what the walk over a text keeps

abbrev pub before_of : kept.Before → Before
before_of Term = ended
before_of Minus = negative
before_of Other = plain

-- the slot of a constant whose token ends at `to`, where the last one ended at `from`
abbrev pub IsSlotAs : Slot → Shape → Before → ℕ → ℕ → Type 0
IsSlotAs slot (word x) b from to = ⊥
IsSlotAs slot (number digits) b from to = (slot.len ≡ length digits) × (slot.before ≡ (to - length digits) - from) × (slot.blank ≡ Number (is_negative b))
IsSlotAs slot (symbol text) b from to = (slot.len ≡ length text) × (slot.before ≡ ((to - 1) - length text) - from) × (slot.blank ≡ Symbol)
IsSlotAs slot (sign x) b from to = ⊥

-- the same of a token that may be none
abbrev pub IsSlotOf : Option Slot → Shape → Before → ℕ → ℕ → Type 0
IsSlotOf None s b from to = IsNoConstant s
IsSlotOf (Some slot) s b from to = IsSlotAs slot s b from to
