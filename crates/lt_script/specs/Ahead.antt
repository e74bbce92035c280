-- A place in a source, between its tokens.
use Rattle.std.specs.Prelude.{◌≡◌, ℕ, ◌⊎◌, Bool, true, false, ◌++◌, ◌+◌, ◌-◌, ◌^◌, ◌<◌, List, [], ◌∷◌, length, take, drop, refl, Option, Some, None}
use Rattle.std.specs.Coded.{Coded, code_by, coded×, coded_list, coded_ℕ}
use Rattle.lt_model.specs.Tokens as tokens
use Rattle.lt_model.specs.Grammar.{semicolon}
use Rattle.lt_model.specs.Script as script
use Rattle.lt_script.specs.declared.token.Token.{Token}
use Rattle.lt_script.specs.declared.lexer.Lexer.{Lexer}
use Rattle.lt_script.specs.declared.lexer.Lexed.{Lexed}
use Rattle.lt_script.specs.declared.lexer.Lexed.TheVariants.{Token as One, End, Broken}
use Rattle.lt_script.specs.declared.standing.Standing.{Standing}
use Rattle.lt_script.specs.declared.standing.Standing.TheVariants as standing
use Rattle.lt_script.specs.View.{shape, view}
use Rattle.lt_script.specs.Pieces.{IsBack, Leads, Passes, goes_on, first_at, Opened}

-- bytes, and the line on which they begin
pub record Source : Type 0 where
  pub bytes : List ℕ
  pub line : ℕ

-- their tokens
abbrev pub read_all : Source → tokens.Read
read_all s = tokens.tokens_at s.line s.bytes

-- a source, and how many of its tokens were passed
pub record Place : Type 0 where
  pub source : Source
  pub passed : ℕ

abbrev pub place_code : Coded Place
place_code = code_by ((List ℕ × ℕ) × ℕ) (coded× (coded× (coded_list coded_ℕ) coded_ℕ) coded_ℕ) (λ p. ((p.source.bytes, p.source.line), p.passed)) (λ p. record { source = record { bytes = p.0.0; line = p.0.1 }; passed = p.1 }) (λ _. refl)

-- the tokens from a place on, and how they end
abbrev pub ahead : Place → tokens.Read
ahead p = (drop p.passed (read_all p.source).0, (read_all p.source).1)

-- the same without their lines
unfoldable pub shapes : Place → List tokens.Shape
shapes p = script.shapes (ahead p).0

-- the tokens before a place
abbrev pub passed_tokens : Place → List tokens.Token
passed_tokens p = take p.passed (read_all p.source).0

-- past the next token; at the end, the same place
unfoldable pub behind : Place → Place
behind p = record { source = p.source; passed = length (read_all p.source).0 - length (drop 1 (ahead p).0) }

-- the token that stands at a place
abbrev pub Stands : Option Token → Place → Type 0
Stands (Some t) p = shapes p ≡ shape t ∷ shapes (behind p)
Stands None p = shapes p ≡ []

-- a token stands first, on this line
pub record BeginsOn (line : ℕ) (ts : List tokens.Token) : Type 0 where
  pub first : tokens.Token
  pub others : List tokens.Token
  pub are : ts ≡ first ∷ others
  pub line_is : first.line ≡ line

-- what stands at a place, with its line
abbrev pub StandsAs : Standing → Place → Type 0
StandsAs (standing.Token line) p = BeginsOn line (ahead p).0
StandsAs (standing.End line) p = ahead p ≡ ([], tokens.finished line)
StandsAs (standing.Broken line code) p = ahead p ≡ ([], tokens.broken line code)

-- ---- a cursor: where it began, where it stands, the next token, and the bytes after it

abbrev pub source_of : Lexer → Source
source_of lexer = record { bytes = lexer.rest.now; line = lexer.line }

abbrev pub read_from : Lexed → Lexer → tokens.Read
read_from (One t) lexer = (view t ∷ (tokens.tokens_at lexer.line lexer.rest.now).0, (tokens.tokens_at lexer.line lexer.rest.now).1)
read_from End lexer = ([], tokens.finished lexer.line)
read_from (Broken c) lexer = ([], tokens.broken lexer.line c)

abbrev pub place_of : Source → Lexed → Lexer → Place
place_of source next lexer = record { source = source; passed = length (read_all source).0 - length (read_from next lexer).0 }

pub record IsAt (source : Source) (next : Lexed) (lexer : Lexer) : Type 0 where
  pub fits : lexer.line + length lexer.rest.now < 2 ^ 64
  pub is : read_from next lexer ≡ ahead (place_of source next lexer)

-- A place behind the tokens that were passed, the bytes that are left there, and their line, whatever comes behind the
-- source. Where nothing is left, the last of the tokens may be one that isn't decided.
pub data IsBehind (source : Source) (passed : List tokens.Token) (line : ℕ) (left : List ℕ) : Type 0 where
  decided : (back : IsBack left source.bytes) → Passes source.line back.front passed line left → IsBehind source passed line left
  undecided : (before : List tokens.Token) (last : tokens.Token) (after : ℕ) (tail : List ℕ) → passed ≡ before ++ last ∷ [] → Leads source.line source.bytes before after tail → goes_on tail ≡ true
      → first_at tail ≡ Some (tokens.token last.shape []) → left ≡ [] → IsBehind source passed line left

-- A source's bytes are a front that ends with a semicolon, and those that are left. Whatever comes behind the front, it is these tokens.
pub record EndsSo (source : Source) (passed : List tokens.Token) (line : ℕ) (left : List ℕ) : Type 0 where
  pub front : List ℕ
  pub parts : source.bytes ≡ (front ++ 59 ∷ []) ++ left
  pub leads : Leads source.line (front ++ 59 ∷ []) passed line []

-- Where the last of these tokens is a semicolon, the bytes that are left stand right behind it.
abbrev pub IsBehindSemicolon : Source → List tokens.Token → ℕ → List ℕ → Type 0
IsBehindSemicolon source passed line left = (before : List tokens.Token) (last : tokens.Token) → passed ≡ before ++ last ∷ [] → last.shape ≡ semicolon → EndsSo source passed line left

-- the bytes of a place in a source, behind these tokens; theirs are the others
pub record IsPlace (source : Source) (passed : List tokens.Token) (line : ℕ) (left : List ℕ) : Type 0 where
  pub back : IsBack left source.bytes
  pub behind : IsBehind source passed line left
  pub ends : IsBehindSemicolon source passed line left
  pub reads : read_all source ≡ (passed ++ (tokens.tokens_at line left).0, (tokens.tokens_at line left).1)

-- the place of a cursor, and the way from there to its next token
pub record Stood (source : Source) (since : Lexer) (next : Lexed) (lexer : Lexer) : Type 0 where
  pub at : IsAt source next lexer
  pub fits : since.line + length since.rest.now < 2 ^ 64
  pub place : IsPlace source (passed_tokens (place_of source next lexer)) since.line since.rest.now
  pub opened : Opened next since.line since.rest.now lexer.line lexer.rest.now

-- Nothing that is decided stands next: these tokens are decided, and behind them is a tail that more bytes may make
-- longer. At most one token of those that were passed isn't among them.
pub record IsUndecided (p : Place) : Type 0 where
  pub before : List tokens.Token
  pub line : ℕ
  pub tail : List ℕ
  pub leads : Leads p.source.line p.source.bytes before line tail
  pub goes : goes_on tail ≡ true
  pub are : (passed_tokens p ≡ before) ⊎ ((last : tokens.Token) × (passed_tokens p ≡ before ++ last ∷ []))

-- what stands next is decided, and so are all tokens that were passed
pub record IsDecided (p : Place) : Type 0 where
  pub line : ℕ
  pub tail : List ℕ
  pub leads : Leads p.source.line p.source.bytes (passed_tokens p) line tail
  pub stops : goes_on tail ≡ false
  pub first : tokens.First
  pub is : first_at tail ≡ Some first

-- whether more bytes may change what stands next
abbrev pub MayChange : Bool → Place → Type 0
MayChange true p = IsUndecided p
MayChange false p = IsDecided p
