-- What ranges of all indexes say of what an evaluation was sensitive to.
use Rattle.std.specs.Prelude.{◌≡◌, ◌<◌, ◌||◌, ℕ, List, length, slice_get, Some}
use Rattle.std.specs.List.{AllByRecursion, flat_map}
use Rattle.lt_face.specs.Lists.{IsIn}
use Rattle.lt_face.specs.State.{Row}
use Rattle.lt_sense.specs.declared.covering.KeptGap.{KeptGap}
use Rattle.lt_sense.specs.declared.covering.Hit.{Hit}
use Rattle.lt_sense.specs.declared.spans.Spans.{Spans}
use Rattle.lt_sense.specs.Kept.{Sense}
use Rattle.lt_sense.specs.Sense.{covers, hit_covers}
use Rattle.lt_sense.specs.Spans.{have, AreBelowEnd, ranges_of}

-- the ranges of all indexes
abbrev pub ranges_in : List Spans → List KeptGap
ranges_in lists = flat_map ranges_of lists

-- each column of a row of this width stands in the order
abbrev pub IsOrder : List ℕ → Type 0
IsOrder columns = (c : ℕ) → c < length columns → IsIn c columns

-- a row of which it may be asked whether it is covered: one of cells, some, and as many as the rows of its relation that were met
pub record IsAskable (sense : Sense) (relation : ℕ) (row : Row) : Type 0 where
  pub some : 0 < length row
  pub below : AreBelowEnd row
  pub hits : AllByRecursion (λ (hit : Hit). hit.relation ≡ relation → length hit.row ≡ length row) sense.hits

-- the ranges have just the rows that gaps and hits cover
abbrev pub IsSaid : Sense → List KeptGap → Type 0
IsSaid sense ranges = (relation : ℕ) (row : Row) → IsAskable sense relation row → covers sense relation row ≡ have ranges relation row

-- the list at this place is of this relation with its columns in this order
abbrev pub IsListOf : List Spans → ℕ → List ℕ → ℕ → Type 0
IsListOf lists relation columns at = (s : Spans) × (slice_get lists at ≡ Some s) × (s.relation ≡ relation) × (s.columns ≡ columns)

-- it is of all columns of those rows of the relation that are as wide
pub record IsOfAllColumns (relation width : ℕ) (s : Spans) : Type 0 where
  pub relation_is : s.relation ≡ relation
  pub width_is : length s.columns ≡ width
  pub order : IsOrder s.columns

-- the list at this place is so
abbrev pub IsWholeListOf : List Spans → ℕ → ℕ → ℕ → Type 0
IsWholeListOf lists relation width at = (s : Spans) × (slice_get lists at ≡ Some s) × IsOfAllColumns relation width s

-- the later ranges have the rows of the earlier ones, and a row that was met: of rows that may be asked for where it was
abbrev pub HaveRow : List KeptGap → List KeptGap → Hit → Type 0
HaveRow old new hit = (relation : ℕ) (row : Row) → AreBelowEnd row → 0 < length row → (hit.relation ≡ relation → length hit.row ≡ length row) → have new relation row ≡ (have old relation row || hit_covers hit relation row)

-- the later ranges have the rows of the earlier ones, and those of the ranges that came
abbrev pub HaveAll : List KeptGap → List KeptGap → List KeptGap → Type 0
HaveAll old new more = (relation : ℕ) (row : Row) → AreBelowEnd row → have new relation row ≡ (have old relation row || have more relation row)
