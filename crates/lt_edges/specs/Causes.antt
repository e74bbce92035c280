-- Counts of faults, and what a fault shows.
use Rattle.std.specs.Prelude.{ℕ, ◌+◌, ◌-◌, ◌^◌, ◌<◌, ◌≤◌, min, List, length, Result, OnErr, IfOk}

-- the next number of a count of 64 bits, which stays at its greatest
abbrev pub one_more : ℕ → ℕ
one_more n = min (n + 1) (2 ^ 64 - 1)

-- the count went up, or stands at its greatest
abbrev pub Rose : ℕ → ℕ → Type 0
Rose before now = one_more before ≤ now

-- the count doesn't fall, and a failure raised it
pub record HasCause {T E : Type 0} (before now : ℕ) (result : Result T E) : Type 0 where
  pub later : before ≤ now
  pub failed : OnErr result (Rose before now)

-- of a piece that isn't empty at least one byte is taken, and never more than there are
pub record Takes {E : Type 0} (result : Result ℕ E) (piece : List ℕ) : Type 0 where
  pub most : IfOk result (λ n. n ≤ length piece)
  pub least : IfOk result (λ n. 0 < length piece → 0 < n)
