use Rattle.std.proofs.Common.{◌≡◌, None, ap, rules}
use Rattle.lt_net.specs.Net.{State}
use Rattle.lt_circuit.specs.Circuit.{state}
use Rattle.lt_circuit.proofs.Hands.{ended_hand}
use Rattle.lt_run_trials.proofs.floor.end.Goals as goal

pub returns-then-not-finishes-clause-hand : goal.returns-then-not-finishes-clause-hand
returns-then-not-finishes-clause-hand g c =
    let none : c.take.new.self ≡ None = search rules in
    ended_hand c.abandon.new.self (state c.args.circuit.now).claim c.args.worker c.take.new.self none (ap (λ (t : State). t.claim) c.abandon.ensures.state)

pub returns-in-Ok-clause-hand : goal.returns-in-Ok-clause-hand
returns-in-Ok-clause-hand g c =
    let none : c.take.new.self ≡ None = search rules in
    ended_hand c.finish.new.self (state c.args.circuit.now).claim c.args.worker c.take.new.self none (ap (λ (t : State). t.claim) c.finish.ensures.state)

pub returns-in-Err-clause-hand : goal.returns-in-Err-clause-hand
returns-in-Err-clause-hand g c =
    let none : c.take.new.self ≡ None = search rules in
    ended_hand c.abandon-in-Err.new.self (state c.args.circuit.now).claim c.args.worker c.take.new.self none (ap (λ (t : State). t.claim) c.abandon-in-Err.ensures.state)
