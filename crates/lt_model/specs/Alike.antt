-- Tokens that differ in constants alone.
use Rattle.std.specs.Prelude.{◌≡◌, ℕ, Bool, true, false, List, [], ◌∷◌, ◌++◌, codes, if◌then◌else◌}
use Rattle.std.specs.List.{list_any}
use Rattle.std.specs.Str.{bytes_eq}
use Rattle.lt_model.specs.declared.syntax.Statement.{Statement}
use Rattle.lt_model.specs.Cells.{sym_cell}
use Rattle.lt_model.specs.Forms.{cells_of, numbered}
use Rattle.lt_model.specs.Sentences.{Level, UpTo, reserved, greatest, digits_value, signed_cell, SpellsForm, SpellsStatement}
use Rattle.lt_model.specs.Tokens.{Shape, word, number, symbol, sign}

-- the same token, or a number for a number and a symbol for a symbol; a number is in range behind a minus and without one
abbrev pub Same : Level → Shape → Shape → Type 0
Same level (word x) u = u ≡ word x
Same level (number digits) u = (other : List ℕ) × (u ≡ number other) × ((minus : Bool) → UpTo level (greatest minus) (digits_value other))
Same level (symbol text) u = (other : List ℕ) × (u ≡ symbol other)
Same level (sign x) u = u ≡ sign x

abbrev pub Alike : Level → List Shape → List Shape → Type 0
Alike level [] us = us ≡ []
Alike level (t ∷ ts) [] = ⊥
Alike level (t ∷ ts) (u ∷ us) = Same level t u × Alike level ts us

-- tokens that are a statement's but for constants are a statement of the same form
abbrev pub AlikeTokens : Type 0
AlikeTokens = (level : Level) (s : Statement) (ts us : List Shape) → SpellsStatement level s ts → Alike level ts us → (other : Statement) × SpellsStatement level other us × (numbered other ≡ numbered s)

-- ---- the cells of tokens, told from the left

-- what stands before a token: the end of a term; a minus behind no term, which is a number's; or anything else
pub data Before : Type 0 where
  plain : Before
  negative : Before
  ended : Before

abbrev pub after_word : List ℕ → Before
after_word x = if list_any (bytes_eq x) reserved then plain else ended

abbrev pub after_sign : Before → List ℕ → Before
after_sign plain x = if bytes_eq x (codes "-") then negative else plain
after_sign negative x = if bytes_eq x (codes "-") then negative else plain
after_sign ended x = plain

abbrev pub after : Before → Shape → Before
after b (word x) = after_word x
after b (number digits) = ended
after b (symbol text) = ended
after b (sign x) = after_sign b x

abbrev pub after_all : Before → List Shape → Before
after_all b [] = b
after_all b (t ∷ ts) = after_all (after b t) ts

abbrev pub is_negative : Before → Bool
is_negative plain = false
is_negative negative = true
is_negative ended = false

abbrev pub cell_at : Before → Shape → List ℕ
cell_at b (word x) = []
cell_at b (number digits) = signed_cell (is_negative b) (digits_value digits) ∷ []
cell_at b (symbol text) = sym_cell text ∷ []
cell_at b (sign x) = []

abbrev pub read_cells : Before → List Shape → List ℕ
read_cells b [] = []
read_cells b (t ∷ ts) = cell_at b t ++ read_cells (after b t) ts

-- they are the statement's
abbrev pub TokensTellCells : Type 0
TokensTellCells = (level : Level) (s : Statement) (ts : List Shape) → SpellsForm level s ts → read_cells plain ts ≡ cells_of s
