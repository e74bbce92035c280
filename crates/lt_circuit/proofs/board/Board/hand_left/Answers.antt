use Rattle.std.proofs.Common.{◌+◌, ◌∙◌, ap, sym, subst}
use Rattle.lt_net.specs.Net.{Correction, State}
use Rattle.lt_net.specs.Tree.{circuit_net, tree_of}
use Rattle.lt_circuit.specs.Board.{BoardView, state_of}
use Rattle.lt_circuit.specs.Nodes.{IsHanded}
use Rattle.lt_circuit.proofs.Waking.{store_there, both_have}
use Rattle.lt_circuit.proofs.board.Board.hand_left.Goals as goal

pub returns-then-is_handed-clause-state : goal.returns-then-is_handed-clause-state
returns-then-is_handed-clause-state c = λ does.
    let handed = subst (λ nodes. IsHanded nodes c.args.node) (ap (λ (v : BoardView). v.nodes) c.self.view_is) (c.is_handed.ensures c.if-is_handed.true) in
    store_there does c.args.self.now (Correction (c.args.node + 1)) c.args.marks (handed ∙ sym (c.requires.current c.if-not-current.false))

pub hand-requires-clause-same : goal.hand-requires-clause-same
hand-requires-clause-same c =
    let net = circuit_net (λ leaf marks. marks) (tree_of c.args.self.now.leaves) in
    let here = ap state_of c.self-2.view_is ∙ c.store_correction-old.ensures.state (λ leaf marks. marks) in
    ap (λ (s : State). s.value (Correction (c.args.node + 1))) here
    ∙ both_have net (state_of c.args.self.now) c.args.node c.args.marks (c.requires.current c.if-not-current.false)
    ∙ sym (ap (λ (s : State). s.value (Correction c.args.node)) here)

pub returns-clause-state : goal.returns-clause-state
returns-clause-state c = λ does. rw c.hand.ensures (ap state_of c.self-2.view_is ∙ c.store_correction-old.ensures.state does)
