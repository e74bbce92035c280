-- Rows with one key, and the regions around them.
use Rattle.std.specs.Prelude.{◌≡◌, ℕ, ◌≤◌, ◌<◌, ◌^◌, Bool, true, List, take, filter, length, slice_index}
use Rattle.std.specs.List.{AllByRecursion}
use Rattle.std.specs.declared.cmp.Ordering.TheVariants.{Less}
use Rattle.lt_face.specs.Limits.{most_columns}
use Rattle.lt_face.specs.Lists.{IsIn}
use Rattle.lt_face.specs.Rows.{row_cmp}
use Rattle.lt_face.specs.State.{Row, State, Has}
use Rattle.lt_model.specs.Effect.{same_row}
use Rattle.lt_query.specs.Lists.{below}
use Rattle.lt_sense.specs.Kept.{Sense}
use Rattle.lt_sense.specs.Sense.{covers, lies_in, IsTight}
use Rattle.lt_join.specs.Walked.{Grows}

-- ---- keys

-- another row has the row's key: the same first cells, so many
abbrev pub has_key_of : ℕ → Row → Row → Bool
has_key_of keys row other = same_row (take keys other) (take keys row)

-- those of the rows that have the row's key
abbrev pub with_key : ℕ → Row → List Row → List Row
with_key keys row rows = filter (has_key_of keys row) rows

-- the rows are of one width
pub record HaveOneWidth (rows : List Row) : Type 0 where
  pub width : ℕ
  pub each : AllByRecursion (λ row. length row ≡ width) rows

-- ---- regions of rows

-- the rows that lie in a gap
abbrev pub Within : Row → ℕ → ℕ → Row → Type 0
Within prefix lo hi other = lies_in prefix lo hi other ≡ true

-- the rows with the first cells of this one that are above it
abbrev pub Above : Row → ℕ → Row → Type 0
Above row from other = (take from other ≡ take from row) × (row_cmp row other ≡ Less)

-- the rows with the first cells of this one that are below it
abbrev pub Below : Row → ℕ → Row → Type 0
Below row from other = (take from other ≡ take from row) × (row_cmp other row ≡ Less)

-- the rows between two
abbrev pub Between : Row → Row → Row → Type 0
Between low high other = (row_cmp low other ≡ Less) × (row_cmp other high ≡ Less)

-- the rows that first differ from this one in one of these columns, and are above it there
abbrev pub AboveIn : Row → ℕ → ℕ → Row → Type 0
AboveIn row from to other = (c : ℕ) × (from ≤ c) × (c < to) × (take c other ≡ take c row) × (slice_index row c < slice_index other c)

-- the rows that first differ from this one in one of these columns, and are below it there
abbrev pub BelowIn : Row → ℕ → ℕ → Row → Type 0
BelowIn row from to other = (c : ℕ) × (from ≤ c) × (c < to) × (take c other ≡ take c row) × (slice_index other c < slice_index row c)

-- the rows with the row's key that aren't among these
abbrev pub Lacking : ℕ → Row → List Row → Row → Type 0
Lacking keys row alike other = (take keys other ≡ take keys row) × (IsIn other alike → ⊥)

-- those that are below one of them
abbrev pub LackingBelow : ℕ → Row → List Row → Row → Row → Type 0
LackingBelow keys row alike last other = Lacking keys row alike other × (row_cmp other last ≡ Less)

-- ---- what a sense gains

-- as wide, and of cells below 2^120
abbrev pub IsBeside : ℕ → Row → Type 0
IsBeside width other = (length other ≡ width) × AllByRecursion (λ c. c < 2 ^ 120) other

-- the columns in their own order, at most 8
pub record AreOwn (columns : List ℕ) : Type 0 where
  pub order : columns ≡ below (length columns)
  pub few : length columns ≤ most_columns

-- The region was noted as empty: the sense covers it, and where no row of the relation lies in it the sense is as tight as before.
pub record Notes (region : Row → Type 0) (relation width : ℕ) (old new : Sense) : Type 0 where
  pub grows : Grows old new
  pub covered : (other : Row) → IsBeside width other → region other → covers new relation other ≡ true
  pub tight : (state : State) → ((other : Row) → Has state relation other → IsBeside width other × (region other → ⊥)) → IsTight old state → IsTight new state
