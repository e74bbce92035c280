use Rattle.std.proofs.Common.{ℕ, ◌<◌}
use Rattle.lt_circuit.specs.Row.{IsPassable}
use Rattle.lt_circuit.proofs.row.look.first_moving.Given as goal

abbrev pub invariant-loop-s : goal.invariant-loop-s
invariant-loop-s l = (r : ℕ) → r < l.s → IsPassable l.segments r
