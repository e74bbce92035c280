use Rattle.std.proofs.Common.{◌≡◌, ◌∙◌, [], ◌∷◌, ap, sym}
use Rattle.lt_net.specs.Net.{read, Correction}
use Rattle.lt_net.specs.Tree.{node_of, halved_tree}
use Rattle.lt_circuit.specs.Board.{BoardView, value_in}
use Rattle.lt_net.proofs.Inside.{leaf_reads}
use Rattle.lt_circuit.proofs.board.Board.leaf_correction.Goals as goal

pub returns : goal.returns
returns c =
    let b = c.args.self.now in
    let here = ap (λ (v : BoardView). v.leaves) c.self.view_is in
    let node : c.node_of-node.result ≡ node_of (halved_tree b.leaves) c.args.leaf = c.node_of-node.ensures.node ∙ ap (λ n. node_of (halved_tree n) c.args.leaf) here in
    let first = c.in_ok-first.ensures ∙ c.correction.ensures ∙ ap (λ v. value_in b.nodes (Correction v)) node in
    ap (λ m. m ∷ []) first ∙ sym (ap (read (value_in b.nodes)) (leaf_reads b.leaves c.args.leaf c.requires))
