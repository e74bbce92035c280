use Rattle.std.proofs.Common.{◌≡◌, true, false, sym, ◌∙◌, arith}
use Rattle.lt_net.specs.declared.job.JobState.TheVariants.{Clean, Pending}
use Rattle.lt_circuit.proofs.Settling.{settled_where}
use Rattle.lt_circuit.proofs.line.Line.settled.Goals as goal

pub returns-then-in_flight-gt0 : goal.returns-then-in_flight-gt0
returns-then-in_flight-gt0 g c = (λ t. absurd (let f : false ≡ true = t in cc), λ settled. absurd (omega (arith, c.if-in_flight-gt0.true, c.in_flight.ensures.none settled)))

pub returns : goal.returns
returns g c = settled_where c.has_pending.result
    (λ e settled. let p = c.has_pending.ensures.some e in let f : Clean ≡ Pending = sym (settled p.0) ∙ p.1 in cc)
    (λ e. c.in_flight.ensures.settled (omega (arith, c.if-in_flight-gt0.false)) (c.has_pending.ensures.none e))
