-- Gaps cut at cells.
use Rattle.std.specs.Prelude.{◌+◌, ℕ, Bool, ◌&&◌, nat_lt, nat_le, if◌then◌else◌, List, [], ◌∷◌, filter}
use Rattle.std.specs.List.{flat_map}
use Rattle.lt_sense.specs.declared.covering.KeptGap.{KeptGap}
use Rattle.lt_sense.specs.Kept.{Sense}

-- the gap without the cell: what lies before it, and what lies behind it
abbrev pub without_key : ℕ → KeptGap → List KeptGap
without_key k gap = if nat_le gap.lo k && nat_lt k gap.hi then record gap { hi = k } ∷ record gap { lo = k + 1 } ∷ [] else gap ∷ []

-- the gaps without the cells
abbrev pub without_keys : List ℕ → List KeptGap → List KeptGap
without_keys [] gaps = gaps
without_keys (k ∷ ks) gaps = without_keys ks (flat_map (without_key k) gaps)

-- whether a cell can lie in it
abbrev pub has_room : KeptGap → Bool
has_room gap = nat_lt gap.lo gap.hi

-- the gaps of a sense cut at the cells; what is left empty goes, and so do the hits
abbrev pub cut : List ℕ → Sense → Sense
cut keys sense = record { gaps = filter has_room (without_keys keys sense.gaps); hits = [] }
