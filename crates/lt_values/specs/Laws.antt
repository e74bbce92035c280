-- The order of cells is the order of values, and a symbol's cell keeps its text.
use Rattle.std.specs.Prelude.{◌≡◌, ℕ, ◌<◌, ◌<ℤ◌, ◌↔◌, IsTrue, List}
use Rattle.std.specs.Ordering.{nat_cmp}
use Rattle.std.specs.Cmp.Lexicographic.{slice_cmp}
use Rattle.lt_model.specs.declared.kind.Kind.TheVariants.{Sym}
use Rattle.lt_model.specs.Cells.{cell_int, sym_cell, cell_text}
use Rattle.lt_values.specs.Symbols.{is_symbol}

-- an int is below another exactly where its cell is
abbrev pub IntsAscend : Type 0
IntsAscend = (a b : ℕ) → (cell_int a <ℤ cell_int b) ↔ (a < b)

-- two symbols' cells are ordered as their bytes: the first that differs decides, and a prefix comes first
abbrev pub SymbolsAscend : Type 0
SymbolsAscend = (s t : List ℕ) → IsTrue (is_symbol s) → IsTrue (is_symbol t) → nat_cmp (sym_cell s) (sym_cell t) ≡ slice_cmp nat_cmp s t

-- the text of a symbol's cell is the symbol
abbrev pub SymbolsReturn : Type 0
SymbolsReturn = (s : List ℕ) → IsTrue (is_symbol s) → cell_text Sym (sym_cell s) ≡ s
