-- What the workers hold, and how many claims stand.
use Rattle.std.specs.Prelude.{◌≡◌, ℕ, List, Option, length}
use Rattle.lt_face.specs.Limits.{most_workers}
use Rattle.lt_circuit.specs.declared.cells.Held.{Held}
use Rattle.lt_circuit.specs.Board.{standing}

pub record AreHolders (claims : List (Option Held)) (count : ℕ) : Type 0 where
  pub workers : length claims ≡ most_workers
  pub counted : count ≡ standing claims
