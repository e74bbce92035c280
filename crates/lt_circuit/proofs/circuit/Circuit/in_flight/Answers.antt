use Rattle.std.proofs.Common.{◌∙◌, sym}
use Rattle.lt_circuit.proofs.Steps.{kept}
use Rattle.lt_circuit.proofs.Settling.{idle_settled, settled_idle}
use Rattle.lt_circuit.proofs.circuit.Circuit.in_flight.Goals as goal

pub returns-clause-settled : goal.returns-clause-settled
returns-clause-settled g c =
    rw (← c.self.view_is) (λ zero none. idle_settled _ c.self.inside.board (kept _ _ _ _ _ _ _ _ _ c.self.invariant) none (sym c.in_flight.ensures.count ∙ zero))

pub returns-clause-none : goal.returns-clause-none
returns-clause-none g c =
    rw (← c.self.view_is) (λ settled. c.in_flight.ensures.count ∙ settled_idle _ c.self.inside.board (kept _ _ _ _ _ _ _ _ _ c.self.invariant) settled)
