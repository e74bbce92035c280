use Rattle.std.proofs.Common.{◌≡◌, ◌<◌, length, refl, sym, ◌∙◌, None, Some, arith}
use Rattle.std.specs.Arc.{arc_value}
use Rattle.std.proofs.lemmas.List.{get_or_default}
use Rattle.lt_circuit.proofs.Settling.{tally_there, tally_stands, tally_fits}
use Rattle.lt_circuit.proofs.circuit.Circuit.tally.Goals as goal

pub unreachable-requires : goal.unreachable-requires
unreachable-requires g c =
    let w = arc_value c.self.inside.work in
    let laws = g.met.W.LeafWork in
    let settled = rw (← c.self.view_is) at c.requires.settled in
    let lt = rw (← c.self.view_is) at c.requires.leaf in
    let there = tally_there _ _ _ _ _ _ _ _ _ c.self.invariant (laws.empty_fits w) (laws.then_fits w) (laws.does_fits w) (laws.fits_marks w) settled c.args.leaf lt in
    let inside : c.args.leaf < length c.self.inside.tallies.items = omega (arith, lt, c.self.invariant.tallies_long) in
    let e : None ≡ Some there.0 = sym c.in-None.is ∙ c.index.ensures ∙ get_or_default c.self.inside.tallies.items c.args.leaf c.index.result.now None inside ∙ there.1 in
    cc

pub returns-clause-stands : goal.returns-clause-stands
returns-clause-stands g c =
    let w = arc_value c.self.inside.work in
    let laws = g.met.W.LeafWork in
    let settled = rw (← c.self.view_is) at c.requires.settled in
    let lt = rw (← c.self.view_is) at c.requires.leaf in
    let inside : c.args.leaf < length c.self.inside.tallies.items = omega (arith, lt, c.self.invariant.tallies_long) in
    let e = sym (get_or_default c.self.inside.tallies.items c.args.leaf c.index.result.now None inside) ∙ sym c.index.ensures ∙ c.in-Some.is in
    rw (← c.self.view_is) (tally_stands _ _ _ _ _ _ _ _ _ c.self.invariant (laws.empty_fits w) (laws.then_fits w) (laws.does_fits w) (laws.fits_marks w) settled c.args.leaf lt c.in-Some.prior e)

pub returns-clause-fits : goal.returns-clause-fits
returns-clause-fits g c =
    let w = arc_value c.self.inside.work in
    let laws = g.met.W.LeafWork in
    let settled = rw (← c.self.view_is) at c.requires.settled in
    let lt = rw (← c.self.view_is) at c.requires.leaf in
    let inside : c.args.leaf < length c.self.inside.tallies.items = omega (arith, lt, c.self.invariant.tallies_long) in
    let e = sym (get_or_default c.self.inside.tallies.items c.args.leaf c.index.result.now None inside) ∙ sym c.index.ensures ∙ c.in-Some.is in
    rw (← c.self.view_is) (tally_fits _ _ _ _ _ _ _ _ _ c.self.invariant (laws.empty_fits w) (laws.then_fits w) (laws.does_fits w) (laws.fits_marks w) settled c.args.leaf lt c.in-Some.prior e)

pub returns-clause-place : goal.returns-clause-place
returns-clause-place g c =
    let lt = rw (← c.self.view_is) at c.requires.leaf in
    let inside : c.args.leaf < length c.self.inside.tallies.items = omega (arith, lt, c.self.invariant.tallies_long) in
    let e = sym (get_or_default c.self.inside.tallies.items c.args.leaf c.index.result.now None inside) ∙ sym c.index.ensures ∙ c.in-Some.is in
    (c.in-Some.prior, rw (← c.self.view_is) e, refl)
