-- The row at a place of a set.
use Rattle.std.specs.Prelude.{◌≡◌, ℕ, zero, suc, ◌<◌, List, [], ◌∷◌, length, Option, Some, None, slice_get, IsSome}
use Rattle.std.specs.Option.{option_copied}
use Rattle.std.proofs.Common.{refl, sym, subst, arith, get_or, rules, Bor}
use Rattle.lt_face.specs.Rows.{IsRow, IsRowSet}
use Rattle.lt_face.specs.State.{Row}
use Rattle.lt_face.proofs.RowLemmas.{each_at}

pub at_place : (rows : List Row) (k : ℕ) (r : Row) (d : Row) → Some r ≡ slice_get rows k → (k < length rows) × (get_or rows k d ≡ r)
at_place [] k r d h = absurd cc
at_place (x ∷ rows) zero r d h = (omega arith, let e : r ≡ x = cc in sym e)
at_place (x ∷ rows) (suc k) r d h = let more = at_place rows k r d h in (omega (arith, more.0), more.1)

pub some_place : (rows : List Row) (k : ℕ) → k < length rows → (r : Row) × (slice_get rows k ≡ Some r)
some_place [] k lt = absurd (omega arith)
some_place (x ∷ rows) zero lt = (x, refl)
some_place (x ∷ rows) (suc k) lt = some_place rows k (omega arith)

-- the row at a place is one of the set's
pub row_there : (width : ℕ) (rows : List Row) (k : ℕ) (r : Row) → IsRowSet width rows → Some r ≡ slice_get rows k → IsRow width r
row_there width rows k r set h =
    let here = at_place rows k r r h in
    subst (IsRow width) here.1 (each_at (IsRow width) rows k r set.each here.0)

pub is_there : {X : Type 0} (o : Option (Bor X)) (x : X) → option_copied o ≡ Some x → IsSome o
is_there None x h = absurd cc
is_there (Some y) x h = search rules
