-- What of a sense covers a row, as a touch tells it.
use Rattle.std.specs.Prelude.{◌≡◌, ℕ, ◌+◌, ◌<◌, ◌≤◌, true, false, [], ◌∷◌, ◌++◌}
use Rattle.std.specs.List.{list_any}
use Rattle.lt_face.specs.State.{Row, State, Has}
use Rattle.lt_sense.specs.Kept.{Sense}
use Rattle.lt_sense.specs.Sense.{gap_covers, hit_covers, lies_in}
use Rattle.lt_restate.specs.declared.touch.Spot.{Spot}
use Rattle.lt_restate.specs.declared.touch.Spot.TheVariants.{Gap, Hit}

-- A gap of the sense has the row, and it lies under the prefix from one bound to below the other, in its own order of columns, where
-- no row of the state lies.
pub record IsGapOf (sense : Sense) (state : State) (relation : ℕ) (row prefix : Row) (lo hi : ℕ) : Type 0 where
  pub covered : list_any (λ gap. gap_covers gap relation row) sense.gaps ≡ true
  pub cell : ℕ
  pub ends : row ≡ prefix ++ cell ∷ []
  pub from : lo ≤ cell
  pub below : cell < hi
  pub none : (other : Row) → Has state relation other → lies_in prefix lo hi other ≡ false

-- such a gap, or a hit of the sense is the row
abbrev pub IsSpotOf : Sense → State → ℕ → Row → Spot → Type 0
IsSpotOf sense state relation row (Gap prefix lo hi) = IsGapOf sense state relation row prefix lo hi
IsSpotOf sense state relation row Hit = list_any (λ hit. hit_covers hit relation row) sense.hits ≡ true

-- the least gap in which the row lies, in its own order of columns
abbrev pub IsOwnGap : Row → Spot → Type 0
IsOwnGap row spot = (prefix : Row) × (cell : ℕ) × (row ≡ prefix ++ cell ∷ []) × (spot ≡ Gap prefix cell (cell + 1))
