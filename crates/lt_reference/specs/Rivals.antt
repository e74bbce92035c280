-- Rows that have one key.
use Rattle.std.specs.Prelude.{ℕ, ◌==◌, ◌&&◌, Bool, List, length, filter, flat_map}
use Rattle.lt_face.specs.State.{Row}
use Rattle.lt_model.specs.Answers.{ascending}
use Rattle.lt_model.specs.Effect.{contend}

-- the other row is as wide as this one and has its key, and is another one
abbrev pub is_rival : ℕ → Row → Row → Bool
is_rival keys row other = (length other == length row) && contend keys other row

-- those of the rows that are so to one of these
abbrev pub rivals_of : ℕ → List Row → List Row → List Row
rivals_of keys rows there = ascending (flat_map (λ row. filter (is_rival keys row) there) rows)
