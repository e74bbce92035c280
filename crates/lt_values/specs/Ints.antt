-- Cells of ints.
use Rattle.std.specs.Prelude.{ℕ, ◌≤◌}
use Rattle.lt_model.specs.Cells.{last_int}

-- a cell that is an int's is from 1 to 2^64
abbrev pub IsIntCell : ℕ → Type 0
IsIntCell cell = (1 ≤ cell) × (cell ≤ last_int)
