use Rattle.std.proofs.Common.{◌/◌, None, get_or, sym, ap, subst, ◌∙◌}
use Rattle.lt_net.specs.Codes.{code_of, IsOfTree}
use Rattle.lt_net.specs.Tree.{circuit_net, tree_of}
use Rattle.lt_net.proofs.Codes.{is_of_tree}
use Rattle.lt_circuit.specs.Circuit.{state}
use Rattle.lt_circuit.specs.Job.{claim_of_job, name_of_job}
use Rattle.lt_batch.proofs.InHand.{abandon_done, his, illegal_abandon, not_his}
use Rattle.lt_batch.proofs.entries.abandon.Goals as goal

pub returns-in-Some : goal.returns-in-Some
returns-in-Some g c =
    let e = c.args.entry in
    let job = c.in-Some.job in
    let mine = his c.args.circuit.now e.worker (get_or c.args.hands.now.items e.worker None) job (c.requires.held.each e.worker c.requires.worker) c.in-Some.ensures.some in
    let code = ap code_of c.in-Some.ensures.name ∙ c.of.ensures.code in
    abandon_done g.W.LeafWork.does c.args.circuit.now c.abandon.new.self c.args.hands.now.items e c.requires.worker c.requires.held
    c.taken.new.hands.items (claim_of_job job) (name_of_job job) c.in-Some.ensures.hands c.requires.kind mine.1 code code
    c.abandon.ensures.work c.abandon.ensures.leaves c.abandon.ensures.state c.abandon.ensures.others c.abandon.ensures.journal

pub returns-in-None : goal.returns-in-None
returns-in-None g c =
    let e = c.args.entry in
    let own = subst IsOfTree (sym c.of.ensures.name) (is_of_tree (e.code / 3)) in
    illegal_abandon (circuit_net (g.W.LeafWork.does c.args.circuit.now.work) (tree_of c.args.circuit.now.board.leaves)) (state c.args.circuit.now) e c.requires.kind
    (not_his c.args.circuit.now e.worker (e.code / 3) c.of.result (get_or c.args.hands.now.items e.worker None) own c.of.ensures.code (c.requires.held.each e.worker c.requires.worker) c.in-None.ensures.none)
