use Rattle.std.proofs.Common.{◌≡◌, None, ap, rules}
use Rattle.lt_net.specs.Net.{State}
use Rattle.lt_circuit.specs.Line.{line_state}
use Rattle.lt_trials.proofs.InHand.{ended_hand}
use Rattle.lt_trials.proofs.lines.end.Goals as goal

pub returns-in-Ok-clause-hand : goal.returns-in-Ok-clause-hand
returns-in-Ok-clause-hand c =
    let none : c.take.new.self ≡ None = search rules in
    ended_hand c.finish.new.self (line_state c.args.line.now).claim c.args.worker c.take.new.self none (ap (λ (t : State). t.claim) c.finish.ensures.state)

pub returns-in-Err-clause-hand : goal.returns-in-Err-clause-hand
returns-in-Err-clause-hand c =
    let none : c.take.new.self ≡ None = search rules in
    ended_hand c.abandon.new.self (line_state c.args.line.now).claim c.args.worker c.take.new.self none (ap (λ (t : State). t.claim) c.abandon.ensures.state)
