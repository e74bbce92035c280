-- Texts that are one another's but for their constants: what they are read as.
use Rattle.std.specs.Prelude.{◌≡◌, ◌≢◌, ℕ, ◌+◌, ◌-◌, ◌<◌, ◌≤◌, false, true, List, [], ◌∷◌, ◌++◌, length, take, drop, Ok, Err, Option, Some, None, IsTrue}
use Rattle.std.specs.List.{list_all}
use Rattle.lt_face.specs.Limits.{most_statements}
use Rattle.lt_reading.specs.Reading.{next_is, many, at_once}
use Rattle.lt_model.specs.declared.syntax.Statement.{Statement}
use Rattle.lt_model.specs.Cells.{sym_cell}
use Rattle.lt_model.specs.Forms.{filled}
use Rattle.lt_model.specs.Grammar.{digits_value, signed_cell}
use Rattle.lt_model.specs.Script as script
use Rattle.lt_model.specs.Tokens.{Token, Shape, is_digit, in_word}
use Rattle.lt_grammar.specs.Grammar.{past}
use Rattle.lt_grammar.specs.Productions.{starts_statement, name_at}
use Rattle.lt_script.specs.declared.slots.Blank.{Blank}
use Rattle.lt_script.specs.declared.slots.Blank.TheVariants.{Number, Symbol}
use Rattle.lt_script.specs.declared.slots.Slot.{Slot}
use Rattle.lt_script.specs.declared.fitting.Behind.{Behind}
use Rattle.lt_script.specs.Parsed.{Outcome, Reader}
use Rattle.lt_script.specs.Pieces.{Passes, IsBack}
use Rattle.lt_script.specs.Valued.{valued_statement_at}

-- ---- texts

-- What is written at a constant's place, with its cell. A minus before digits isn't part of it: it belongs to the form. A number is in
-- range with a minus and without one.
abbrev pub IsConstant : Blank → List ℕ → ℕ → Type 0
IsConstant (Number minus) text cell = (text ≢ []) × IsTrue (list_all is_digit text) × (digits_value text < past false) × (cell ≡ signed_cell minus (digits_value text))
IsConstant Symbol text cell = (1 ≤ length text) × (length text ≤ 15) × IsTrue (list_all in_word text) × (cell ≡ sym_cell text)

-- the bytes are the text with these constants in its slots
abbrev pub HasForm : List Slot → List ℕ → List ℕ → List ℕ → Type 0
HasForm [] text bytes cells = (bytes ≡ text) × (cells ≡ [])
HasForm (slot ∷ slots) text bytes [] = ⊥
HasForm (slot ∷ slots) text bytes (cell ∷ cells) =
    (constant after : List ℕ) × (bytes ≡ take slot.before text ++ (constant ++ after)) × IsConstant slot.blank constant cell × HasForm slots (drop (slot.before + slot.len) text) after cells

-- Whatever comes behind them and on whatever line they begin, the bytes are a statement, up to its semicolon, and go so many lines down.
pub record IsRead (bytes : List ℕ) (lines : ℕ) (s : Statement) : Type 0 where
  pub tokens : List Shape
  pub divides : (line : ℕ) → (ts : List Token) × Passes line bytes ts (line + lines) [] × (script.shapes ts ≡ tokens)
  pub begins : (more : List Shape) → next_is starts_statement (tokens ++ more) ≡ true
  pub reads : (more : List Shape) → valued_statement_at (tokens ++ more) ≡ Ok (s, more)
  pub ends : (front : List ℕ) × (bytes ≡ front ++ 59 ∷ [])

-- each text of the form is read as its statement with these constants
abbrev pub IsKnown : List ℕ × Statement → List Slot → ℕ → Type 0
IsKnown form slots lines = (bytes cells : List ℕ) → HasForm slots form.0 bytes cells → IsRead bytes lines (filled form.1 cells)

-- the statement was taken from the front of the bytes, and so much is left
abbrev pub IsTakenOff : List ℕ → List ℕ → ℕ → Statement → Type 0
IsTakenOff bytes rest lines s = (text : List ℕ) × (bytes ≡ text ++ rest) × IsRead text lines s

-- a statement was taken from the front of the bytes and put behind those before, or none was
abbrev pub Took : List ℕ → List Statement → List Statement → Option Behind → Type 0
Took bytes old new None = new ≡ old
Took bytes old new (Some behind) = (s : Statement) × (new ≡ old ++ s ∷ []) × IsTakenOff bytes behind.rest.now behind.lines s

-- ---- many statements

-- what was read before stands before what is read
abbrev pub put_before : {A : Type 0} → List A → Outcome (List A) → Outcome (List A)
put_before front (Ok x) = Ok (front ++ x.0, x.1)
put_before front (Err e) = Err e

-- the statements for which there is still room
abbrev pub more_statements : List Statement → Reader (List Statement)
more_statements front ts = put_before front (many starts_statement valued_statement_at at_once (most_statements - length front) ts)

-- tokens before others are these statements
abbrev pub AreRead : List Statement → List Shape → Type 0
AreRead read tokens = (front : List Statement) (more : List Shape) → length (front ++ read) ≤ most_statements → more_statements front (tokens ++ more) ≡ more_statements (front ++ read) more

-- from these bytes on these statements were passed: white space and comments stand before each
pub record GoesPast (line : ℕ) (bytes : List ℕ) (after : ℕ) (left : List ℕ) (read : List Statement) : Type 0 where
  pub back : IsBack left bytes
  pub ts : List Token
  pub passes : Passes line back.front ts after []
  pub are : AreRead read (script.shapes ts)
  pub ends : read ≢ [] → (front : List ℕ) × (back.front ≡ front ++ 59 ∷ [])
  pub still : read ≡ [] → (left ≡ bytes) × (after ≡ line) × (ts ≡ [])

-- ---- a cursor

-- a name was read, and the statements behind it that are known
abbrev pub IsTitled : {X : Type 0} → (X → List ℕ) → List Shape → List Shape → List Statement → X → Type 0
IsTitled view old new read name = (tokens : List Shape) × (name_at old ≡ Ok (view name, tokens ++ new)) × AreRead read tokens × (length read ≤ most_statements)
