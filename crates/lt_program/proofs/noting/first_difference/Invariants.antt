use Rattle.std.proofs.Common.{◌≡◌, take}
use Rattle.lt_program.proofs.noting.first_difference.Given as goal

abbrev pub invariant-loop-column : goal.invariant-loop-column
invariant-loop-column l = take l.column l.low ≡ take l.column l.high
