use Rattle.std.proofs.Common.{◌∙◌, sym, subst}
use Rattle.std.specs.Arc.{arc_value}
use Rattle.lt_net.specs.Line.{placed}
use Rattle.lt_net.specs.Net.{Effect}
use Rattle.lt_circuit.proofs.LineTables.{line_all_fit, line_serial}
use Rattle.lt_circuit.proofs.line.Line.root_effect.Goals as goal

pub returns-clause-serial : goal.returns-clause-serial
returns-clause-serial g c =
    let w = arc_value c.self.inside.work in
    let laws = g.met.W.LeafWork in
    let inside = rw (← c.self.view_is) at c.requires in
    rw (← c.self.view_is) (λ past. c.effect.ensures
    ∙ (line_serial _ _ _ _ _ _ _ _ _ c.self.invariant (laws.empty_fits w) (laws.then_fits w) (laws.does_fits w) (laws.fits_marks w) c.args.s inside past).whole)

pub returns-clause-fits : goal.returns-clause-fits
returns-clause-fits g c =
    let w = arc_value c.self.inside.work in
    let laws = g.met.W.LeafWork in
    rw (← c.self.view_is) (subst (g.W.LeafWork.fits w) (sym c.effect.ensures)
    ((line_all_fit _ _ _ _ _ _ _ _ _ c.self.invariant (laws.empty_fits w) (laws.then_fits w) (laws.does_fits w)).cells (placed c.args.s (Effect 0))))
