use Rattle.std.proofs.Common.{◌∙◌, ap, sym, length, Option, None}
use Rattle.lt_circuit.specs.declared.cells.Held.{Held}
use Rattle.lt_circuit.specs.Board.{standing}
use Rattle.lt_circuit.proofs.Opening.{length-table}
use Rattle.lt_circuit.proofs.Standing.{none_stand}
use Rattle.lt_circuit.proofs.holders.Holders.none.Goals as goal

pub invariant_of-result : goal.invariant_of-result
invariant_of-result c = record {
  workers = ap length c.in_ok-claims.ensures ∙ length-table {X = Option Held} (λ k. None) 16;
  counted = sym (ap standing c.in_ok-claims.ensures ∙ none_stand Held 16);
}
