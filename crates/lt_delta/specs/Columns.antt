-- The orders of a relation's columns, and rows with their cells in such an order.
use Rattle.std.specs.Prelude.{◌≡◌, ℕ, zero, suc, ◌+◌, ◌<◌, List, [], ◌∷◌, length}
use Rattle.std.specs.List.{AllByRecursion}
use Rattle.lt_face.specs.Lists.{IsIn}
use Rattle.lt_face.specs.State.{Row, permuted}

-- so many numbers from the first on
abbrev pub numbers : ℕ → ℕ → List ℕ
numbers from zero = []
numbers from (suc n) = from ∷ numbers (from + 1) n

-- each column of a relation of this width, once
pub record IsPermOf (width : ℕ) (columns : List ℕ) : Type 0 where
  pub as_long : length columns ≡ width
  pub within : AllByRecursion (λ c. c < width) columns
  pub each : (c : ℕ) → c < width → IsIn c columns

-- the same rows, each with its cells in the order of the columns
pub record IsPermuted (width : ℕ) (columns : List ℕ) (rows index : List Row) : Type 0 where
  pub perm : IsPermOf width columns
  pub there : (row : Row) → IsIn row rows → IsIn (permuted columns row) index
  pub from : (r : Row) → IsIn r index → (row : Row) × IsIn row rows × (permuted columns row ≡ r)
