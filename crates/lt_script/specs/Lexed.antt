-- What fits a form divides into tokens that differ from those of its text in constants alone.
use Rattle.std.specs.Prelude.{◌≡◌, ℕ, List}
use Rattle.lt_model.specs.Alike.{Alike, plain, read_cells}
use Rattle.lt_model.specs.Sentences.{legal}
use Rattle.lt_model.specs.Tokens.{Shape}
use Rattle.lt_script.specs.declared.slots.Slot.{Slot}
use Rattle.lt_script.specs.Forms.{HasForm}
use Rattle.lt_script.specs.Placed.{Divides, ArePlaced}

-- the text's tokens, and for each text that fits: tokens that are these but for constants, over as many lines, with its cells
abbrev pub LexesAlike : List Slot → List ℕ → Type 0
LexesAlike slots text =
    (lines : ℕ) × (tokens : List Shape) × Divides text lines tokens
    × ((bytes cells : List ℕ) → HasForm slots text bytes cells → (others : List Shape) × Divides bytes lines others × Alike legal tokens others × (read_cells plain others ≡ cells))

-- the texts of a form divide alike
abbrev pub TextsOfForms : Type 0
TextsOfForms = (slots : List Slot) (text : List ℕ) → ArePlaced slots text → LexesAlike slots text
