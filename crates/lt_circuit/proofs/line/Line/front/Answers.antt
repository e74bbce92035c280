use Rattle.lt_circuit.proofs.Fronts.{front_is}
use Rattle.lt_circuit.proofs.LineTables.{kept_line}
use Rattle.lt_circuit.proofs.line.Line.front.Goals as goal

pub returns : goal.returns
returns g c =
    rw (← c.self.view_is) (front_is _ c.self.inside.row (kept_line _ _ _ _ _ _ _ _ _ c.self.invariant) c.self.invariant.single c.self.invariant.placed c.front.result c.front.ensures.within c.front.ensures.before c.front.ensures.here)
