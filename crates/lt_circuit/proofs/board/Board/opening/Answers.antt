use Rattle.std.proofs.Common.{◌∙◌, ap, List, Option, None, length}
use Rattle.std.specs.Prelude.{max}
use Rattle.lt_model.specs.declared.mark.Mark.{Mark}
use Rattle.lt_net.specs.Codes.{codes_over}
use Rattle.lt_circuit.specs.declared.cells.Held.{Held}
use Rattle.lt_circuit.specs.Board.{bare_node, first_state, board_state}
use Rattle.lt_circuit.proofs.Opening.{opening_is, length-table}
use Rattle.lt_circuit.proofs.board.Board.opening.Goals as goal

pub invariant_of-result : goal.invariant_of-result
invariant_of-result c = record {
  small = c.requires;
  nodes_there = ap length c.in_ok-nodes.ensures ∙ length-table (λ k. bare_node) c.at_least_one.result ∙ c.at_least_one.ensures ∙ ap (λ n. max n 1) c.nodes_over.ensures;
  states_there = ap length c.in_ok-jobs.ensures ∙ length-table (first_state c.args.leaves) (codes_over c.args.leaves);
  done_there = ap length c.in_ok-done.ensures ∙ length-table {X = Option (List Mark)} (λ k. None) c.args.leaves;
  claims_there = ap length c.in_ok-holders.ensures ∙ length-table {X = Option Held} (λ k. None) 16;
}

pub returns-clause-state : goal.returns-clause-state
returns-clause-state c = λ effect.
    (λ i. board_state (c.in_ok-nodes.ensures i) (c.in_ok-jobs.ensures i) (c.in_ok-done.ensures i) c.in_ok-holders.holders)
    ∙ opening_is effect c.args.leaves c.at_least_one.result c.in_ok-holders.holders c.in_ok-holders.ensures
