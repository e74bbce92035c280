use Rattle.std.proofs.Common.{◌≡◌, ◌≤◌, ◌*◌}
use Rattle.lt_circuit.specs.Row.{standing_below}
use Rattle.lt_circuit.proofs.row.look.claims_in.Given as goal

abbrev pub invariant-loop-s : goal.invariant-loop-s
invariant-loop-s l = record {
  sum : l.count ≡ standing_below l.segments l.s;
  few : l.count ≤ 16 * l.s;
}
