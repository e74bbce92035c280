use Rattle.std.proofs.Common.{◌≡◌, length}
use Rattle.lt_circuit.proofs.order.last_places.Given as goal

abbrev pub invariant-loop-place : goal.invariant-loop-place
invariant-loop-place l = length l.places.items ≡ l.codes
