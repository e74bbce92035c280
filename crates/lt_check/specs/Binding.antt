-- Which variables are bound, as a list of their numbers.
use Rattle.std.specs.Prelude.{◌≡◌, ℕ, Bool, ◌==◌, List}
use Rattle.std.specs.List.{list_any}

-- whether the variable is among these
abbrev pub has : List ℕ → ℕ → Bool
has places v = list_any (λ place. place == v) places

-- the variables are bound alike
abbrev pub Alike : (ℕ → Bool) → (ℕ → Bool) → Type 0
Alike f g = (v : ℕ) → f v ≡ g v
