-- The order of the ranges of one index: by their first rows, and none begins before the one before it has ended.
use Rattle.std.specs.Prelude.{◌≡◌, ◌<◌, ◌||◌, ℕ, false, nat_lt, if◌then◌else◌, List, [], ◌∷◌, ◌++◌, length, map}
use Rattle.std.specs.Ordering.{nat_cmp, is_gt, ordering_then}
use Rattle.std.specs.declared.cmp.Ordering.{Ordering}
use Rattle.std.specs.declared.cmp.Ordering.TheVariants.{Less, Equal, Greater}
use Rattle.lt_face.specs.Rows.{row_cmp}
use Rattle.lt_face.specs.State.{Row}
use Rattle.lt_sense.specs.declared.covering.KeptGap.{KeptGap}
use Rattle.lt_sense.specs.declared.spans.Span.{Span}
use Rattle.lt_sense.specs.declared.spans.Spans.{Spans}
use Rattle.lt_sense.specs.Sense.{gap_covers}
use Rattle.lt_sense.specs.Spans.{still}

-- where a range begins among rows, and where it ends
abbrev pub first_of : KeptGap → Row
first_of range = range.prefix ++ range.lo ∷ []

abbrev pub end_of : KeptGap → Row
end_of range = range.prefix ++ range.hi ∷ []

abbrev pub range_cmp : KeptGap → KeptGap → Ordering
range_cmp a b = row_cmp (first_of a) (first_of b)

-- the one begins no later than the other, and has ended before that begins
pub record IsApart (a b : KeptGap) : Type 0 where
  pub order : is_gt (range_cmp a b) ≡ false
  pub apart : row_cmp (end_of a) (first_of b) ≡ Less

-- how a range stands to a row of these cells: Equal where it has the row
abbrev pub stands : Row → ℕ → ℕ → Row → Ordering
stands prefix lo hi [] = Greater
stands [] lo hi (x ∷ xs) = if nat_lt x lo then Greater else (if nat_lt x hi then Equal else Less)
stands (p ∷ ps) lo hi (x ∷ xs) = ordering_then (nat_cmp p x) (stands ps lo hi xs)

-- a range has the rows of two others
abbrev pub AreUnited : KeptGap → KeptGap → KeptGap → Type 0
AreUnited one other both = (relation : ℕ) (row : Row) → gap_covers both relation row ≡ (gap_covers one relation row || gap_covers other relation row)

-- ---- as they are kept

abbrev pub still_in : Spans → Span → KeptGap
still_in s span = still s.relation s.columns s.runs.items s.cells.items span

abbrev pub stills_in : Spans → List Span → List KeptGap
stills_in s spans = map (still_in s) spans

-- its run is there
abbrev pub IsKeptSpan : Spans → Span → Type 0
IsKeptSpan s span = span.run < length s.runs.items

-- how two of them begin
abbrev pub span_cmp : Spans → Span → Span → Ordering
span_cmp s one other = range_cmp (still_in s one) (still_in s other)
