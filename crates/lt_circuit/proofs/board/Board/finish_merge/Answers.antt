use Rattle.std.proofs.Common.{◌∙◌}
use Rattle.lt_net.specs.Net.{Effect}
use Rattle.lt_net.specs.Tree.{circuit_net, tree_of}
use Rattle.lt_circuit.specs.Store.{stored}
use Rattle.lt_circuit.specs.Board.{state_of}
use Rattle.lt_circuit.proofs.Finishes.{merge_is}
use Rattle.lt_circuit.proofs.board.Board.finish_merge.Goals as goal

pub returns-clause-state : goal.returns-clause-state
returns-clause-state c = λ does claim left right job ins is.
    let closes = c.close-held.ensures.state claim job in
    let leaves = c.close-held.ensures.leaves in
    let step = c.store_effect-first.ensures.state does in
    step
    ∙ (λ i. stored (circuit_net does (tree_of (leaves i))) (closes i) (Effect c.args.node) c.args.effect)
    ∙ merge_is does c.args.self.now.leaves (state_of c.args.self.now) c.args.worker claim c.args.node c.args.effect left right c.requires.inner job ins is
