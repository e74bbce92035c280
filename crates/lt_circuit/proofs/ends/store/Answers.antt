use Rattle.std.proofs.Common.{rules, ◌∙◌, [], ◌∷◌, ap, sym, subst, arith}
use Rattle.lt_net.specs.Tree.{inputs_of, tree_of}
use Rattle.lt_net.specs.Codes.{code_of}
use Rattle.lt_net.proofs.Inside.{leaf_inside, merge_inside, correct_inside, correct_inner, correct_reads}
use Rattle.lt_net.specs.Net.{first_of, read}
use Rattle.lt_circuit.specs.Board.{state_of}
use Rattle.lt_circuit.specs.Job.{done_inputs, done_name, Gave}
use Rattle.lt_circuit.proofs.ends.store.Goals as goal

pub finish_leaf-stood-requires-clause-leaf : goal.finish_leaf-stood-requires-clause-leaf
finish_leaf-stood-requires-clause-leaf g c =
    leaf_inside c.args.board.now.leaves c.in-Leaf.leaf (λ e. c.requires.job (ap (λ d. inputs_of (tree_of c.args.board.now.leaves) (done_name d)) c.in-Leaf.is ∙ e))

pub index_mut-requires : goal.index_mut-requires
index_mut-requires g c =
    let inside = leaf_inside c.args.board.now.leaves c.in-Leaf.leaf (λ e. c.requires.job (ap (λ d. inputs_of (tree_of c.args.board.now.leaves) (done_name d)) c.in-Leaf.is ∙ e)) in
    omega (arith, inside, c.requires.tallies)

pub finish_merge-stood-requires-clause-node : goal.finish_merge-stood-requires-clause-node
finish_merge-stood-requires-clause-node g c =
    merge_inside c.args.board.now.leaves c.in-Merge.node (λ e. c.requires.job (ap (λ d. inputs_of (tree_of c.args.board.now.leaves) (done_name d)) c.in-Merge.is ∙ e))

pub finish_correct-stood-requires-clause-node : goal.finish_correct-stood-requires-clause-node
finish_correct-stood-requires-clause-node g c =
    correct_inside c.args.board.now.leaves c.in-Correct.node (λ e. c.requires.job (ap (λ d. inputs_of (tree_of c.args.board.now.leaves) (done_name d)) c.in-Correct.is ∙ e))

pub finish_correct-stood-requires-clause-current : goal.finish_correct-stood-requires-clause-current
finish_correct-stood-requires-clause-current g c = λ running.
    let b = c.args.board.now in
    let node = c.in-Correct.node in
    let inner = correct_inner b.leaves node (λ e. c.requires.job (ap (λ d. inputs_of (tree_of b.leaves) (done_name d)) c.in-Correct.is ∙ e)) in
    let inputs = sym (ap done_inputs c.in-Correct.is) ∙ c.requires.current (ap (λ d. (state_of b).status (code_of (done_name d))) c.in-Correct.is ∙ running)
    ∙ ap (λ d. read (state_of b).value (inputs_of (tree_of b.leaves) (done_name d))) c.in-Correct.is ∙ ap (read (state_of b).value) (correct_reads b.leaves node inner) in
    ap first_of inputs

pub returns-in-Leaf-clause-state : goal.returns-in-Leaf-clause-state
returns-in-Leaf-clause-state g c = λ does claim job ins gave.
    let k = subst (Gave does) c.in-Leaf.is gave in
    c.finish_leaf-stood.ensures.state does claim (job ∙ ap (λ d. code_of (done_name d)) c.in-Leaf.is)
    (ins ∙ ap done_inputs c.in-Leaf.is ∙ ap (λ m. m ∷ []) (sym k.0)) (k.1 ∙ ap (does c.in-Leaf.leaf) (sym k.0))

pub returns-in-Merge-clause-state : goal.returns-in-Merge-clause-state
returns-in-Merge-clause-state g c = λ does claim job ins gave.
    c.finish_merge-stood.ensures.state does claim c.in-Merge.left c.in-Merge.right (job ∙ ap (λ d. code_of (done_name d)) c.in-Merge.is)
    (ins ∙ ap done_inputs c.in-Merge.is) (subst (Gave does) c.in-Merge.is gave)

pub returns-in-Correct-clause-state : goal.returns-in-Correct-clause-state
returns-in-Correct-clause-state g c = λ does claim job ins gave.
    c.finish_correct-stood.ensures.state does claim c.in-Correct.left (job ∙ ap (λ d. code_of (done_name d)) c.in-Correct.is)
    (ins ∙ ap done_inputs c.in-Correct.is) (subst (Gave does) c.in-Correct.is gave)

pub returns-in-Leaf-clause-tallies : goal.returns-in-Leaf-clause-tallies
returns-in-Leaf-clause-tallies g c = search rules
