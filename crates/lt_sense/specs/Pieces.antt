-- Cells that stand together in a list of cells.
use Rattle.std.specs.Prelude.{◌≤◌, ◌+◌, ℕ, List, length}
use Rattle.std.specs.List.{slice_range}
use Rattle.lt_face.specs.Limits.{most_columns}
use Rattle.lt_face.specs.State.{Row}
use Rattle.lt_sense.specs.declared.pieces.Piece.{Piece}

-- the cells of a piece
abbrev pub piece_of : List ℕ → Piece → Row
piece_of cells piece = slice_range cells piece.start (piece.start + piece.width)

-- the piece lies among the cells, and is no wider than a row
abbrev pub IsPiece : List ℕ → Piece → Type 0
IsPiece cells piece = (piece.start + piece.width ≤ length cells) × (piece.width ≤ most_columns)
