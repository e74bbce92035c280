use Rattle.std.proofs.Common.{◌≡◌, length}
use Rattle.lt_circuit.specs.Jobs.{ArePlaced}
use Rattle.lt_circuit.proofs.order.place_codes.Given as goal

abbrev pub invariant-loop-code : goal.invariant-loop-code
invariant-loop-code l = record {
  long : length l.places.items ≡ l.codes;
  placed : ArePlaced l.order.items l.places.items l.code;
}
