use Rattle.std.proofs.Common.{◌/◌, Some, None, get_or, sym, ap, subst, ◌∙◌}
use Rattle.lt_net.specs.Codes.{code_of, IsOfTree}
use Rattle.lt_net.specs.Net.{Claim}
use Rattle.lt_net.specs.Tree.{circuit_net, tree_of}
use Rattle.lt_net.proofs.Codes.{is_of_tree}
use Rattle.lt_circuit.specs.Circuit.{state}
use Rattle.lt_circuit.specs.Job.{claim_of_output, name_of_output}
use Rattle.lt_batch.proofs.InHand.{finish_done, his, illegal_finish, not_his}
use Rattle.lt_batch.proofs.entries.finish.Goals as goal

pub returns-in-Ok : goal.returns-in-Ok
returns-in-Ok g c =
    let e = c.args.entry in
    let output = c.in-Ok.output in
    let mine = his c.args.circuit.now e.worker (get_or c.args.hands.now.items e.worker None) c.in-Some.job (c.requires.held.each e.worker c.requires.worker) c.in-Some.ensures.some in
    let code = ap code_of c.in-Some.ensures.name ∙ c.of.ensures.code in
    finish_done g.W.LeafWork.does c.args.circuit.now c.finish.new.self c.args.hands.now.items e c.requires.worker c.requires.held
    c.taken.new.hands.items (claim_of_output output) (name_of_output output) c.in-Some.ensures.hands c.requires.kind
    (mine.1 ∙ ap (λ (k : Claim). Some k) (sym c.in-Ok.ensures.claim)) (ap (λ (k : Claim). k.job) c.in-Ok.ensures.claim ∙ code) (ap code_of c.in-Ok.ensures.name ∙ code)
    c.finish.ensures.work c.finish.ensures.leaves c.finish.ensures.state c.finish.ensures.others c.finish.ensures.journal

pub returns-in-None : goal.returns-in-None
returns-in-None g c =
    let e = c.args.entry in
    let own = subst IsOfTree (sym c.of.ensures.name) (is_of_tree (e.code / 3)) in
    illegal_finish (circuit_net (g.W.LeafWork.does c.args.circuit.now.work) (tree_of c.args.circuit.now.board.leaves)) (state c.args.circuit.now) e c.requires.kind
    (not_his c.args.circuit.now e.worker (e.code / 3) c.of.result (get_or c.args.hands.now.items e.worker None) own c.of.ensures.code (c.requires.held.each e.worker c.requires.worker) c.in-None.ensures.none)
