use Rattle.std.proofs.Common.{◌∙◌, sym}
use Rattle.lt_circuit.proofs.LineTables.{kept_line, row_idle_settled, row_settled_idle}
use Rattle.lt_circuit.proofs.line.Line.in_flight.Goals as goal

pub returns-clause-settled : goal.returns-clause-settled
returns-clause-settled g c =
    rw (← c.self.view_is) (λ zero none. row_idle_settled _ c.self.inside.row (kept_line _ _ _ _ _ _ _ _ _ c.self.invariant) none (sym c.in_flight.ensures ∙ zero))

pub returns-clause-none : goal.returns-clause-none
returns-clause-none g c =
    rw (← c.self.view_is) (λ settled. c.in_flight.ensures ∙ row_settled_idle _ c.self.inside.row (kept_line _ _ _ _ _ _ _ _ _ c.self.invariant) settled)
