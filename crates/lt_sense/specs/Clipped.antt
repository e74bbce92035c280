-- Rows that begin with one key.
use Rattle.std.specs.Prelude.{ℕ, Bool, false, ◌==◌, [], ◌∷◌}
use Rattle.lt_face.specs.State.{Row}

-- whether the cells begin with the key
abbrev pub begins : ℕ → Row → Bool
begins key [] = false
begins key (x ∷ xs) = key == x
