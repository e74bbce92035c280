use Rattle.std.proofs.Common.{◌≡◌, ◌<◌, ◌+◌, ◌*◌, length, refl, sym, ◌∙◌, None, Some, arith}
use Rattle.std.specs.Arc.{arc_value}
use Rattle.std.proofs.lemmas.List.{get_or_default}
use Rattle.lt_circuit.proofs.LineTables.{line_tally_there, line_tally_stands, line_tally_fits}
use Rattle.lt_circuit.proofs.line.Line.tally.Goals as goal

pub unreachable-requires : goal.unreachable-requires
unreachable-requires g c =
    let w = arc_value c.self.inside.work in
    let laws = g.met.W.LeafWork in
    let s = c.args.s in
    let inside = rw (← c.self.view_is) at c.requires.segment in
    let lt = rw (← c.self.view_is) at c.requires.leaf in
    let past = rw (← c.self.view_is) at c.requires.past in
    let there = line_tally_there _ _ _ _ _ _ _ _ _ c.self.invariant (laws.empty_fits w) (laws.then_fits w) (laws.does_fits w) (laws.fits_marks w) s inside past c.args.leaf lt in
    let long : 256 * s + c.args.leaf < length c.self.inside.tallies.items = c.self.invariant.tallies_long s c.args.leaf lt in
    let e : None ≡ Some there.0 = sym c.in-None.is ∙ c.index.ensures ∙ get_or_default c.self.inside.tallies.items (256 * s + c.args.leaf) c.index.result.now None long ∙ there.1 in
    cc

pub returns-clause-stands : goal.returns-clause-stands
returns-clause-stands g c =
    let w = arc_value c.self.inside.work in
    let laws = g.met.W.LeafWork in
    let s = c.args.s in
    let inside = rw (← c.self.view_is) at c.requires.segment in
    let lt = rw (← c.self.view_is) at c.requires.leaf in
    let past = rw (← c.self.view_is) at c.requires.past in
    let long : 256 * s + c.args.leaf < length c.self.inside.tallies.items = c.self.invariant.tallies_long s c.args.leaf lt in
    let e = sym (get_or_default c.self.inside.tallies.items (256 * s + c.args.leaf) c.index.result.now None long) ∙ sym c.index.ensures ∙ c.in-Some.is in
    rw (← c.self.view_is) (line_tally_stands _ _ _ _ _ _ _ _ _ c.self.invariant (laws.empty_fits w) (laws.then_fits w) (laws.does_fits w) (laws.fits_marks w) s inside past c.args.leaf lt c.in-Some.prior e)

pub returns-clause-fits : goal.returns-clause-fits
returns-clause-fits g c =
    let w = arc_value c.self.inside.work in
    let laws = g.met.W.LeafWork in
    let s = c.args.s in
    let inside = rw (← c.self.view_is) at c.requires.segment in
    let lt = rw (← c.self.view_is) at c.requires.leaf in
    let past = rw (← c.self.view_is) at c.requires.past in
    let long : 256 * s + c.args.leaf < length c.self.inside.tallies.items = c.self.invariant.tallies_long s c.args.leaf lt in
    let e = sym (get_or_default c.self.inside.tallies.items (256 * s + c.args.leaf) c.index.result.now None long) ∙ sym c.index.ensures ∙ c.in-Some.is in
    rw (← c.self.view_is) (line_tally_fits _ _ _ _ _ _ _ _ _ c.self.invariant (laws.empty_fits w) (laws.then_fits w) (laws.does_fits w) (laws.fits_marks w) s inside past c.args.leaf lt c.in-Some.prior e)

pub returns-clause-place : goal.returns-clause-place
returns-clause-place g c =
    let s = c.args.s in
    let lt = rw (← c.self.view_is) at c.requires.leaf in
    let long : 256 * s + c.args.leaf < length c.self.inside.tallies.items = c.self.invariant.tallies_long s c.args.leaf lt in
    let e = sym (get_or_default c.self.inside.tallies.items (256 * s + c.args.leaf) c.index.result.now None long) ∙ sym c.index.ensures ∙ c.in-Some.is in
    (c.in-Some.prior, rw (← c.self.view_is) e, refl)

pub index-requires : goal.index-requires
index-requires g c =
    let lt = rw (← c.self.view_is) at c.requires.leaf in
    let long = c.self.invariant.tallies_long c.args.s c.args.leaf lt in
    omega (arith, long)
