-- What is read.
use Rattle.std.specs.Prelude.{ℕ}

-- the most bytes that are read
abbrev pub limit : ℕ
limit = 16777216
