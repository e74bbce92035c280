-- Symbols.
use Rattle.std.specs.Prelude.{ℕ, Bool, ◌&&◌, List, length}
use Rattle.std.specs.List.{list_all}
use Rattle.lt_model.specs.Tokens.{between, in_word}

-- 1 to 15 bytes, each of a to z, 0 to 9 and _
abbrev pub is_symbol : List ℕ → Bool
is_symbol text = between 1 15 (length text) && list_all in_word text
