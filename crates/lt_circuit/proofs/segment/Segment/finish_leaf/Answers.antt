use Rattle.std.proofs.Common.{◌∙◌, ◌≡◌, ap, sym, arith}
use Rattle.lt_net.specs.Net.{Effect, State}
use Rattle.lt_net.specs.Tree.{node_in, node_of, tree_of, halved_tree}
use Rattle.lt_net.proofs.Inside.{node_in_is}
use Rattle.lt_circuit.specs.Board.{state_of}
use Rattle.lt_circuit.specs.Segment.{passing, pass_stored}
use Rattle.lt_circuit.proofs.Finishes.{leaf_is_finished}
use Rattle.lt_circuit.proofs.Segments.{stored_finished}
use Rattle.lt_circuit.proofs.segment.Segment.finish_leaf.Goals as goal

pub returns-clause-state : goal.returns-clause-state
returns-clause-state c = λ does claim job ins is.
    let g = c.self.inside in
    let leaf = rw (← c.self.view_is) at c.requires.leaf in
    let small = rw (← c.self.view_is) at c.requires.small in
    let node : c.node_of-node.result ≡ node_in (tree_of g.board.leaves) c.args.leaf =
    c.node_of-node.ensures.node ∙ ap (λ n. node_of (halved_tree n) c.args.leaf) c.leaves-leaves.ensures ∙ sym (node_in_is g.board.leaves c.args.leaf leaf) in
    let e = ap (λ (t : State). t.value) (sym (leaf_is_finished does g.board.leaves (state_of g.board) c.args.worker claim c.args.leaf c.args.effect c.args.kept leaf job ins is)) in
    let pass = (rw (← c.self.view_is) at c.pass_stored-pass.ensures) ∙ ap (λ k. pass_stored (state_of g.board) g.pass g.on (Effect k) c.args.effect) node in
    rw (← c.self.view_is) ((λ i. passing (c.finish_leaf.ensures.state does claim job ins is i) (pass i))
    ∙ stored_finished does g.board.leaves g.on (state_of g.board) g.pass c.args.worker claim (λ f. omega (arith, f, job, leaf, small)) (Effect (node_in (tree_of g.board.leaves) c.args.leaf)) c.args.effect e)
