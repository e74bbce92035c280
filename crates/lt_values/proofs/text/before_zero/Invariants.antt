use Rattle.std.proofs.Common.{◌≡◌, ◌++◌, ◌==◌, take, drop}
use Rattle.std.specs.Prelude.{take_while, not}
use Rattle.lt_values.proofs.text.before_zero.Given as goal

-- what is passed, and what is kept of the rest
abbrev pub invariant-loop-i : goal.invariant-loop-i
invariant-loop-i l = take l.i l.bytes ++ take_while (λ b. not (b == 0)) (drop l.i l.bytes) ≡ take_while (λ b. not (b == 0)) l.bytes
