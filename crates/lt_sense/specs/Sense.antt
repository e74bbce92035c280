-- What an evaluation was sensitive to: gaps between keys, and rows that were met.
use Rattle.std.specs.Prelude.{◌≡◌, ℕ, Bool, true, false, ◌&&◌, ◌||◌, ◌==◌, nat_lt, nat_le, [], ◌∷◌}
use Rattle.std.specs.List.{list_any, AllByRecursion}
use Rattle.lt_face.specs.State.{Row, State, row_eq, permuted, Has, AgreeOn}
use Rattle.lt_sense.specs.declared.covering.KeptGap.{KeptGap}
use Rattle.lt_sense.specs.declared.covering.Hit.{Hit}
use Rattle.lt_sense.specs.Kept.{Sense}

-- whether the cells begin with the prefix, and the next lies from lo to below hi
abbrev pub lies_in : Row → ℕ → ℕ → Row → Bool
lies_in prefix lo hi [] = false
lies_in [] lo hi (x ∷ xs) = nat_le lo x && nat_lt x hi
lies_in (p ∷ ps) lo hi (x ∷ xs) = p == x && lies_in ps lo hi xs

-- whether a row of the relation lies in the gap
abbrev pub gap_covers : KeptGap → ℕ → Row → Bool
gap_covers gap relation row = gap.relation == relation && lies_in gap.prefix gap.lo gap.hi (permuted gap.columns row)

-- whether this is the row of the relation
abbrev pub hit_covers : Hit → ℕ → Row → Bool
hit_covers hit relation row = hit.relation == relation && row_eq hit.row row

-- whether a gap or a hit has the row
abbrev pub covers : Sense → ℕ → Row → Bool
covers sense relation row = list_any (λ gap. gap_covers gap relation row) sense.gaps || list_any (λ hit. hit_covers hit relation row) sense.hits

-- the states have the same ones of the rows that are covered
abbrev pub AgreeWhereCovered : Sense → State → State → Type 0
AgreeWhereCovered sense s t = (relation : ℕ) (row : Row) → covers sense relation row ≡ true → AgreeOn s t relation row

-- no row of the state lies in a gap, and each hit is a row of the state
pub record IsTight (sense : Sense) (state : State) : Type 0 where
  pub gaps : AllByRecursion (λ (gap : KeptGap). (row : Row) → Has state gap.relation row → lies_in gap.prefix gap.lo gap.hi (permuted gap.columns row) ≡ false) sense.gaps
  pub hits : AllByRecursion (λ (hit : Hit). Has state hit.relation hit.row) sense.hits
