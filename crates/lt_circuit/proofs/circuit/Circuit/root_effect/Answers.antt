use Rattle.std.proofs.Common.{◌∙◌, sym, subst}
use Rattle.std.specs.Arc.{arc_value}
use Rattle.lt_net.specs.Net.{Effect}
use Rattle.lt_circuit.proofs.Steps.{all_fit}
use Rattle.lt_circuit.proofs.Settling.{circuit_serial}
use Rattle.lt_circuit.proofs.circuit.Circuit.root_effect.Goals as goal

pub returns-clause-serial : goal.returns-clause-serial
returns-clause-serial g c =
    let w = arc_value c.self.inside.work in
    let laws = g.met.W.LeafWork in
    rw (← c.self.view_is) (λ settled. c.effect.ensures
    ∙ (circuit_serial _ _ _ _ _ _ _ _ _ c.self.invariant (laws.empty_fits w) (laws.then_fits w) (laws.does_fits w) (laws.fits_marks w) settled).whole)

pub returns-clause-fits : goal.returns-clause-fits
returns-clause-fits g c =
    let w = arc_value c.self.inside.work in
    let laws = g.met.W.LeafWork in
    rw (← c.self.view_is) (subst (g.W.LeafWork.fits w) (sym c.effect.ensures)
    ((all_fit _ _ _ _ _ _ _ _ _ c.self.invariant (laws.empty_fits w) (laws.then_fits w) (laws.does_fits w)).cells (Effect 0)))
