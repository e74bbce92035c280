use Rattle.std.proofs.Common.{◌≡◌, None}
use Rattle.lt_circuit.specs.Board.{table}
use Rattle.lt_circuit.proofs.holders.nones.Given as goal

abbrev pub invariant-loop-place : goal.invariant-loop-place
invariant-loop-place g l = l.places.items ≡ table (λ k. None) l._place
