use Rattle.std.proofs.Common.{◌≡◌, ◌∙◌, ap, sym}
use Rattle.lt_net.specs.Net.{Effect}
use Rattle.lt_net.specs.declared.job.JobName.TheVariants.{Leaf}
use Rattle.lt_net.specs.Tree.{circuit_net, tree_of, node_of, node_in, halved_tree}
use Rattle.lt_net.specs.Codes.{code_of}
use Rattle.lt_circuit.specs.Store.{stored, kept_leaf}
use Rattle.lt_circuit.specs.Board.{state_of, BoardView}
use Rattle.lt_circuit.proofs.Finishes.{leaf_is_finished}
use Rattle.lt_net.proofs.Inside.{node_in_is}
use Rattle.lt_circuit.proofs.board.Board.finish_leaf.Goals as goal

pub returns-clause-state : goal.returns-clause-state
returns-clause-state c = λ does claim job ins is.
    let closes = c.close-held.ensures.state claim job in
    let leaves = c.close-held.ensures.leaves in
    let here = ap (λ (b : BoardView). b.leaves) c.self.view_is in
    let node : c.node_of-node.result ≡ node_in (tree_of c.args.self.now.leaves) c.args.leaf =
    c.node_of-node.ensures.node ∙ ap (λ n. node_of (halved_tree n) c.args.leaf) here ∙ sym (node_in_is c.args.self.now.leaves c.args.leaf c.requires.leaf) in
    c.keep-second.ensures.state
    ∙ ap (λ s. kept_leaf s (code_of (Leaf c.args.leaf)) c.args.kept) (c.store_effect-first.ensures.state does)
    ∙ (λ i. kept_leaf (stored (circuit_net does (tree_of (leaves i))) (closes i) (Effect (node i)) c.args.effect) (code_of (Leaf c.args.leaf)) c.args.kept)
    ∙ leaf_is_finished does c.args.self.now.leaves (state_of c.args.self.now) c.args.worker claim c.args.leaf c.args.effect c.args.kept c.requires.leaf job ins is
