use Rattle.std.proofs.Common.{◌≡◌, ◌<◌, ◌+◌, ◌∙◌, ap, sym, refl, [], Some, None, arith}
use Rattle.lt_net.specs.Net.{Claim, Correction, State}
use Rattle.lt_net.specs.Tree.{circuit_net, tree_of, halved_tree, right_in, right_of}
use Rattle.lt_net.specs.Codes.{code_of}
use Rattle.lt_net.specs.declared.job.JobName.TheVariants.{Correct}
use Rattle.lt_circuit.specs.Store.{stored}
use Rattle.lt_circuit.specs.Board.{state_of, BoardView}
use Rattle.lt_circuit.proofs.Finishes.{correct_is}
use Rattle.lt_net.proofs.Inside.{right_in_is}
use Rattle.lt_circuit.proofs.board.Board.finish_correct.Goals as goal

-- the claim's end leaves the marks
pub hand_left-first-requires-clause-current : goal.hand_left-first-requires-clause-current
hand_left-first-requires-clause-current c = λ e.
    let claim : Claim = record { job = code_of (Correct c.args.node); inputs = []; prior = None } in
    let closes = c.close-held.ensures.state claim refl in
    c.requires.current (c.is_running-current.ensures e) ∙ sym (ap (λ (s : State). s.value (Correction c.args.node)) closes)

pub returns-clause-state : goal.returns-clause-state
returns-clause-state c = λ does claim left job ins is.
    let some : 0 < c.args.self.now.leaves = omega (arith, c.requires.node) in
    let here = ap (λ (b : BoardView). b.leaves) c.self.view_is in
    let inner : right_in (tree_of c.args.self.now.leaves) c.args.node ≡ Some c.in-Some.right =
    right_in_is c.args.self.now.leaves c.args.node some ∙ sym (c.in-Some.ensures.node ∙ ap (λ n. right_of (halved_tree n) c.args.node) here) in
    let closes = c.close-held.ensures.state claim job in
    let leaves = c.close-held.ensures.leaves in
    let first = c.hand_left-first.ensures.state does ∙ (λ i. stored (circuit_net does (tree_of (leaves i))) (closes i) (Correction (c.args.node + 1)) c.args.to_left) in
    let later = c.hand_left-first.ensures.leaves ∙ leaves in
    c.store_correction-second.ensures.state does
    ∙ (λ i. stored (circuit_net does (tree_of (later i))) (first i) (Correction c.in-Some.right) c.args.to_right)
    ∙ correct_is does c.args.self.now.leaves (state_of c.args.self.now) c.args.worker claim c.args.node c.in-Some.right c.args.to_left left c.args.to_right some inner job ins is
