-- Where rows are looked up.
use Rattle.std.specs.Prelude.{ℕ, List}
use Rattle.lt_face.specs.State.{Row}

-- the rows of an index, and the order of its columns
pub record LookUpView : Type 0 where
  pub columns : List ℕ
  pub width : ℕ
  pub rows : List Row
