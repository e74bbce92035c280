-- Changed rows that a sense doesn't cover.
use Rattle.std.specs.Prelude.{◌≡◌, ℕ, false, List}
use Rattle.std.specs.List.{AllByRecursion}
use Rattle.lt_face.specs.State.{Row}
use Rattle.lt_sense.specs.Kept.{Sense}
use Rattle.lt_sense.specs.Sense.{covers}

-- none of the rows is covered
abbrev pub AreUncovered : Sense → List (ℕ × Row) → Type 0
AreUncovered sense changes = AllByRecursion (λ (change : ℕ × Row). covers sense change.0 change.1 ≡ false) changes
