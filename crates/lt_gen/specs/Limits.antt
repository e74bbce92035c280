-- How much a generated script may have.
use Rattle.std.specs.Prelude.{ℕ}

-- things in stock
abbrev pub most_items : ℕ
most_items = 16384

-- programs that buy
abbrev pub most_buyers : ℕ
most_buyers = 65536
