-- Reserved words and signs with their texts.
use Rattle.std.specs.Prelude.{ℕ, List, [], ◌∷◌, drop, codes, Option, Some, None}
use Rattle.std.specs.Str.{bytes_eq}
use Rattle.lt_reading.specs.Reading.{in_table}
use Rattle.lt_model.specs.Tokens as tokens
use Rattle.lt_script.specs.declared.reserved.Reserved.{Reserved}
use Rattle.lt_script.specs.declared.reserved.Reserved.TheVariants as words
use Rattle.lt_script.specs.declared.reserved.Sign.{Sign}
use Rattle.lt_script.specs.declared.reserved.Sign.TheVariants as signs

abbrev pub word_text : Reserved → List ℕ
word_text words.Relation = codes "relation"
word_text words.Batch = codes "batch"
word_text words.Program = codes "program"
word_text words.End = codes "end"
word_text words.Commit = codes "commit"
word_text words.Show = codes "show"
word_text words.At = codes "at"
word_text words.Insert = codes "insert"
word_text words.Delete = codes "delete"
word_text words.Replace = codes "replace"
word_text words.By = codes "by"
word_text words.Where = codes "where"
word_text words.Require = codes "require"
word_text words.Some = codes "some"
word_text words.None = codes "none"
word_text words.Print = codes "print"
word_text words.Int = codes "int"
word_text words.Sym = codes "sym"
word_text words.Not = codes "not"

abbrev pub sign_text : Sign → List ℕ
sign_text signs.NotEqual = codes "!="
sign_text signs.LessOrEqual = codes "<="
sign_text signs.GreaterOrEqual = codes ">="
sign_text signs.Arrow = codes "->"
sign_text signs.Open = codes "("
sign_text signs.Close = codes ")"
sign_text signs.Comma = codes ","
sign_text signs.Semicolon = codes ";"
sign_text signs.Equal = codes "="
sign_text signs.Less = codes "<"
sign_text signs.Greater = codes ">"
sign_text signs.Plus = codes "+"
sign_text signs.Minus = codes "-"

-- the reserved words in the order of the language's list
abbrev pub reserved_table : List (List ℕ × Reserved)
reserved_table =
    (codes "relation", words.Relation) ∷ (codes "batch", words.Batch) ∷ (codes "program", words.Program) ∷ (codes "end", words.End) ∷ (codes "commit", words.Commit) ∷ (codes "show", words.Show) ∷ (codes "at", words.At)
    ∷ (codes "insert", words.Insert) ∷ (codes "delete", words.Delete) ∷ (codes "replace", words.Replace) ∷ (codes "by", words.By) ∷ (codes "where", words.Where) ∷ (codes "require", words.Require) ∷ (codes "some", words.Some)
    ∷ (codes "none", words.None) ∷ (codes "print", words.Print) ∷ (codes "int", words.Int) ∷ (codes "sym", words.Sym) ∷ (codes "not", words.Not) ∷ []

-- the reserved word that a text is
abbrev pub reserved_of : List ℕ → Option Reserved
reserved_of text = in_table bytes_eq reserved_table text

-- the sign at the front, which has so many bytes; or a fault, where no sign stands there
abbrev pub first_sign : Option (Sign × ℕ) → List ℕ → tokens.First
first_sign None bytes = tokens.fault 1
first_sign (Some found) bytes = tokens.token (tokens.sign (sign_text found.0)) (drop found.1 bytes)
