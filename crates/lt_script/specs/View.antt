-- What the definitions see of a token that was read.
use Rattle.std.specs.Prelude.{◌≡◌, ℕ, List, [], ◌∷◌}
use Rattle.lt_model.specs.Tokens as tokens
use Rattle.lt_script.specs.Reserved.{word_text, sign_text}
use Rattle.lt_script.specs.declared.token.Lexeme.{Lexeme}
use Rattle.lt_script.specs.declared.token.Lexeme.TheVariants.{Word, Reserved, Number, Symbol, Sign}
use Rattle.lt_script.specs.declared.token.Token.{Token}
use Rattle.lt_script.specs.declared.lexer.Lexed as lexed
use Rattle.lt_script.specs.declared.lexer.Lexed.TheVariants.{Token as One, End, Broken}

abbrev pub shape_of : Lexeme → tokens.Shape
shape_of (Word w) = tokens.word w.label.bytes.now
shape_of (Reserved w) = tokens.word (word_text w)
shape_of (Number text) = tokens.number text.now
shape_of (Symbol label) = tokens.symbol label.bytes.now
shape_of (Sign s) = tokens.sign (sign_text s)

abbrev pub shape : Token → tokens.Shape
shape t = shape_of t.lexeme

abbrev pub view : Token → tokens.Token
view t = record { shape = shape t; line = t.line }

-- one token on this line, and the bytes after it; or a fault inside it
abbrev pub IsFirst : lexed.Lexed → ℕ → List ℕ → tokens.First → Type 0
IsFirst (One t) line left first = (first ≡ tokens.token (shape t) left) × (t.line ≡ line)
IsFirst End line left first = ⊥
IsFirst (Broken c) line left first = first ≡ tokens.fault c

-- the next token of those that the bytes are, and the others from a line and bytes on; or how they end
abbrev pub IsNext : lexed.Lexed → ℕ → List ℕ → tokens.Read → Type 0
IsNext (One t) line left read = read ≡ (view t ∷ (tokens.tokens_at line left).0, (tokens.tokens_at line left).1)
IsNext End line left read = read ≡ ([], tokens.finished line)
IsNext (Broken c) line left read = read ≡ ([], tokens.broken line c)

abbrev pub IsOther : tokens.Class → Type 0
IsOther tokens.white = ⊥
IsOther tokens.feed = ⊥
IsOther tokens.hash = ⊥
IsOther _ = Unit {0}

-- no white space and no comment stands first
abbrev pub IsGapless : List ℕ → Type 0
IsGapless [] = Unit {0}
IsGapless (b ∷ bytes) = IsOther (tokens.class_of b)
