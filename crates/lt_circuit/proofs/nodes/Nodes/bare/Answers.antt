use Rattle.std.proofs.Common.{◌≡◌, ◌∙◌, ap, sym, subst, length, arith}
use Rattle.lt_circuit.specs.Board.{bare_node}
use Rattle.lt_circuit.specs.Nodes.{IsHanded}
use Rattle.lt_circuit.proofs.Opening.{length-table}
use Rattle.lt_circuit.proofs.Handed.{bare_handed}
use Rattle.lt_circuit.proofs.nodes.Nodes.bare.Goals as goal

pub invariant_of-result : goal.invariant_of-result
invariant_of-result c =
    let nodes : length c.in_ok-nodes.nodes.items ≡ c.args.n = ap length c.in_ok-nodes.ensures ∙ length-table (λ k. bare_node) c.args.n in
    record {
      long = omega (arith, c.in_ok-handed.ensures.len, nodes);
      same = λ v e. subst (λ nodes. IsHanded nodes v) (sym c.in_ok-nodes.ensures) (bare_handed c.args.n v);
    }
