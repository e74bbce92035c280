use Rattle.std.proofs.Common.{rules, ◌≡◌, ◌<◌, length, get_or, sym, ap, ◌∙◌, arith}
use Rattle.std.proofs.lemmas.List.{get_or-map, length-map}
use Rattle.lt_leap.proofs.leap.Leap.iter.Goals as goal

pub returns-clause-found : goal.returns-clause-found
returns-clause-found g c = λ key.
    let H = g.I.KeyIter.here in
    let items = c.self.inside.iters.items in
    let seen = c.index.result.now in
    let goes = rw (← c.self.view_is) at key in
    let inside : c.args.i < length items = rw (← c.self.view_is) at c.requires in
    let found = c.self.invariant goes in
    let idx : seen ≡ get_or items c.args.i seen = search rules in
    rw (← c.self.view_is) (ap H idx ∙ sym (get_or-map H items c.args.i seen 0 inside) ∙ found.together c.args.i (omega (arith, length-map items H)))
