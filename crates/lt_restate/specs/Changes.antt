-- The rows on which two states differ, and the keys of a part that they touch.
use Rattle.std.specs.Prelude.{ℕ, ◌+◌, Bool, not, if◌then◌else◌, List, [], ◌∷◌, ◌++◌, map, filter}
use Rattle.std.specs.List.{list_any, flat_map}
use Rattle.std.specs.Option.{option_to_list}
use Rattle.std.specs.Ordering.{nat_cmp}
use Rattle.lt_face.specs.Rows.{by_order, has_row}
use Rattle.lt_face.specs.State.{Row, State, rows_in, permuted}
use Rattle.lt_trie.specs.Under.{next_cell}
use Rattle.lt_sense.specs.declared.covering.KeptGap.{KeptGap}
use Rattle.lt_sense.specs.Kept.{Sense}
use Rattle.lt_sense.specs.Sense.{covers, gap_covers}
use Rattle.lt_join.specs.Slices.{Slice}
use Rattle.lt_join.specs.Sliced.{slice_keys}
use Rattle.lt_program.specs.Part.{Part}

-- ---- changed rows

-- the rows that one state has and the other hasn't, of relations numbered from n on
abbrev pub lost_from : ℕ → State → State → List (ℕ × Row)
lost_from n [] t = []
lost_from n (relation ∷ s) t = map (λ row. (n, row)) (filter (λ row. not (has_row (rows_in t n) row)) relation.rows) ++ lost_from (n + 1) s t

-- the rows that one of the states has and the other hasn't
abbrev pub changes_between : State → State → List (ℕ × Row)
changes_between s t = lost_from 0 s t ++ lost_from 0 t s

-- whether the sense covers one of them
abbrev pub is_disturbed : Sense → State → State → Bool
is_disturbed sense s t = list_any (λ (change : ℕ × Row). covers sense change.0 change.1) (changes_between s t)

-- ---- touched keys

-- the cell at which the row lies in the gap, if it does
abbrev pub cells_in : ℕ × Row → KeptGap → List ℕ
cells_in change gap = if gap_covers gap change.0 change.1 then option_to_list (next_cell gap.prefix (permuted gap.columns change.1)) else []

-- the slices that cover the row
abbrev pub slices_with : ℕ × Row → List Slice → List Slice
slices_with change slices = filter (λ (slice : Slice). covers slice.sense change.0 change.1) slices

-- the keys of the slices that cover the row, and the cells at which it lies in root gaps
abbrev pub keys_at : Part → ℕ × Row → List ℕ
keys_at part change = slice_keys (slices_with change part.slices) ++ flat_map (cells_in change) part.sense.gaps

-- the number at its place in an ascending list, unless it is there
abbrev pub with_number : ℕ → List ℕ → List ℕ
with_number k [] = k ∷ []
with_number k (l ∷ ls) = by_order (nat_cmp k l) (k ∷ (l ∷ ls)) (l ∷ ls) (l ∷ with_number k ls)

-- ascending, each once
abbrev pub sorted_numbers : List ℕ → List ℕ
sorted_numbers [] = []
sorted_numbers (k ∷ ks) = with_number k (sorted_numbers ks)

-- the keys that the changes between two states touch
abbrev pub touched_on : Part → State → State → List ℕ
touched_on part s t = sorted_numbers (flat_map (keys_at part) (changes_between s t))
