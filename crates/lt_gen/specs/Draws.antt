-- The numbers that the generator draws.
use Rattle.std.specs.Prelude.{ℕ, zero, suc, ◌+◌, ◌*◌, ◌^◌, ◌/◌, ◌%◌}

-- the x behind this one
abbrev pub next : ℕ → ℕ
next x = (x * 6364136223846793005 + 1442695040888963407) % 2 ^ 64

-- x after so many draws, each of which sets it first; it begins as the seed
abbrev pub x_after : ℕ → ℕ → ℕ
x_after seed zero = seed
x_after seed (suc n) = next (x_after seed n)

-- what is drawn below n where x was set to this
abbrev pub drawn : ℕ → ℕ → ℕ
drawn x n = (x / 2 ^ 33) % n

-- the draw of this number, from 1 on, below n
abbrev pub draw : ℕ → ℕ → ℕ → ℕ
draw seed number n = drawn (x_after seed number) n

-- a seed, and how many numbers were drawn from it
pub record Drawn : Type 0 where
  pub seed : ℕ
  pub count : ℕ
