-- Ranges of the rows of one index, and what lists of ranges have.
use Rattle.std.specs.Prelude.{◌≡◌, ◌<◌, ◌≤◌, ◌||◌, ℕ, suc, Bool, List, [], ◌∷◌, ◌++◌, length, map, take, slice_get, Option, Some, None}
use Rattle.std.specs.List.{list_any, AllByRecursion}
use Rattle.lt_face.specs.Keys.{end_key}
use Rattle.lt_face.specs.Limits.{most_columns}
use Rattle.lt_face.specs.State.{Row}
use Rattle.lt_face.specs.declared.key.Gap.{Gap}
use Rattle.lt_sense.specs.declared.covering.KeptGap.{KeptGap}
use Rattle.lt_sense.specs.declared.spans.Span.{Span}
use Rattle.lt_sense.specs.declared.spans.Spans.{Spans}
use Rattle.lt_sense.specs.declared.pieces.Piece.{Piece}
use Rattle.lt_sense.specs.Sense.{gap_covers}
use Rattle.lt_sense.specs.Pieces.{piece_of, IsPiece}

-- whether a range has the row
abbrev pub have : List KeptGap → ℕ → Row → Bool
have ranges relation row = list_any (λ range. gap_covers range relation row) ranges

-- no cell of the row is END
abbrev pub AreBelowEnd : Row → Type 0
AreBelowEnd row = AllByRecursion (λ c. c < end_key) row

-- the ranges have the same rows
abbrev pub HaveSameRows : List KeptGap → List KeptGap → Type 0
HaveSameRows one other = (relation : ℕ) (row : Row) → AreBelowEnd row → have one relation row ≡ have other relation row

-- the later ranges have the rows of the earlier ones, and those of one range more
abbrev pub HaveAlso : List KeptGap → List KeptGap → KeptGap → Type 0
HaveAlso old new range = (relation : ℕ) (row : Row) → AreBelowEnd row → have new relation row ≡ (have old relation row || gap_covers range relation row)

-- the cells of a run's prefix
abbrev pub prefix_in : List ℕ → Option Piece → Row
prefix_in cells None = []
prefix_in cells (Some piece) = piece_of cells piece

-- a range that doesn't grow any more
abbrev pub still : ℕ → List ℕ → List Piece → List ℕ → Span → KeptGap
still relation columns runs cells span = record { relation = relation; columns = columns; prefix = prefix_in cells (slice_get runs span.run); lo = span.lo; hi = span.hi }

-- those that grow above the last one: the first under the first n cells of the prefix, each next one under a cell more
abbrev pub growing : ℕ → List ℕ → Row → ℕ → List Gap → List KeptGap
growing relation columns at n [] = []
growing relation columns at n (gap ∷ gaps) = record { relation = relation; columns = columns; prefix = take n at; lo = gap.lo; hi = gap.hi } ∷ growing relation columns at (suc n) gaps

-- a range under a prefix of an index
abbrev pub under : Spans → Row → ℕ → ℕ → KeptGap
under s prefix lo hi = record { relation = s.relation; columns = s.columns; prefix = prefix; lo = lo; hi = hi }

abbrev pub stills : Spans → List KeptGap
stills s = map (still s.relation s.columns s.runs.items s.cells.items) s.ranges.items

-- all ranges of an index
abbrev pub ranges_of : Spans → List KeptGap
ranges_of s = stills s ++ (growing s.relation s.columns s.at 0 s.above.items ++ under s s.at s.lo s.hi ∷ [])

-- each place that is named is there, each cell of the prefix has a range that grows above it, and no bounds are turned round
pub record IsSpans (s : Spans) : Type 0 where
  pub runs : AllByRecursion (IsPiece s.cells.items) s.runs.items
  pub ranges : AllByRecursion (λ (span : Span). span.run < length s.runs.items) s.ranges.items
  pub narrow : length s.columns ≤ most_columns
  pub depth : length s.above.items ≡ length s.at
  pub risen : AllByRecursion (λ (gap : Gap). gap.lo ≤ gap.hi) s.above.items
  pub here : s.lo ≤ s.hi

-- it is of the same index
pub record IsOfSame (old new : Spans) : Type 0 where
  pub relation : new.relation ≡ old.relation
  pub columns : new.columns ≡ old.columns

-- what grows is as it was
pub record GrowAlike (old new : Spans) : Type 0 where
  pub relation : new.relation ≡ old.relation
  pub columns : new.columns ≡ old.columns
  pub at : new.at ≡ old.at
  pub lo : new.lo ≡ old.lo
  pub hi : new.hi ≡ old.hi
  pub above : new.above.items ≡ old.above.items
