-- Rows that were laid out so far.
use Rattle.std.specs.Prelude.{◌≡◌, ℕ, ◌+◌, List, [], ◌∷◌}
use Rattle.std.specs.List.{AllByRecursion}
use Rattle.std.specs.declared.cmp.Ordering.TheVariants.{Less}
use Rattle.lt_face.specs.Rows.{IsRowSet, row_cmp}

-- a set of rows, each below the next row to come
pub record IsBuilt (rows : List (List ℕ)) (a b : ℕ) : Type 0 where
  pub is_set : IsRowSet 2 rows
  pub below : AllByRecursion (λ r. row_cmp r ((a + 1) ∷ (b + 1) ∷ []) ≡ Less) rows
