use Rattle.std.proofs.Common.{◌∙◌}
use Rattle.lt_circuit.proofs.Placing.{one_placed}
use Rattle.lt_circuit.proofs.order.place_codes.Goals as goal

pub loop-code-preserved : goal.loop-code-preserved
loop-code-preserved c = record {
  long = c.place_code.ensures.long ∙ c.loop-code.invariant.long;
  placed = one_placed _ _ _ _ _ c.loop-code.invariant.placed c.in_ok-place_code.ensures.others c.in_ok-place_code.ensures.here;
}
