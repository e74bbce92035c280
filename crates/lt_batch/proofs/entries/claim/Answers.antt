use Rattle.std.proofs.Common.{◌≡◌, None, false, get_or, rules}
use Rattle.std.specs.Prelude.{is_some}
use Rattle.lt_batch.proofs.InHand.{claim_done, free_hand}
use Rattle.lt_batch.proofs.entries.claim.Goals as goal

pub returns-in-Job : goal.returns-in-Job
returns-in-Job g c =
    let e = c.args.entry in
    let hand = get_or c.args.hands.now.items e.worker None in
    let empty : is_some (get_or c.args.hands.now.items c.args.entry.worker None) ≡ false = search rules in
    claim_done g.W.LeafWork.does c.args.circuit.now c.claim_this.new.self c.args.hands.now.items e c.requires.worker c.requires.held c.in-Job.job c.requires.kind
    (free_hand c.args.circuit.now e.worker hand (c.requires.held.each e.worker c.requires.worker) empty) c.in-Job.ensures.0 c.in-Job.ensures.1
