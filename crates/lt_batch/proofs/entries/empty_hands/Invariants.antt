use Rattle.std.proofs.Common.{◌≡◌, None}
use Rattle.lt_circuit.specs.Board.{table}
use Rattle.lt_batch.proofs.entries.empty_hands.Given as goal

abbrev pub invariant-loop-worker : goal.invariant-loop-worker
invariant-loop-worker g l = l.hands.items ≡ table (λ k. None) l._worker
