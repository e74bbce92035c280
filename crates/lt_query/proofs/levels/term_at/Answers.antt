use Rattle.lt_query.specs.Order.{place_at, places_of}
use Rattle.lt_query.proofs.ByShape.{term_here, place_after}
use Rattle.lt_query.proofs.levels.term_at.Goals as goal

pub returns-then-left-terms : goal.returns-then-left-terms
returns-then-left-terms c =
    term_here c.args.atoms.now c.loop-atom.atom-index c.atom-item.result c.as_slice-terms.result.now c.loop-atom.left (place_at (places_of c.args.atoms.now) c.args.place)
    c.loop-atom-test.true c.atom-item.is c.as_slice-terms.ensures c.if-left-terms.true c.loop-atom.invariant.1

pub loop-atom-preserved : goal.loop-atom-preserved
loop-atom-preserved c =
    place_after c.args.atoms.now c.loop-atom.atom-index c.atom-item.result c.as_slice-terms.result.now c.loop-atom.left (place_at (places_of c.args.atoms.now) c.args.place)
    c.loop-atom-test.true c.atom-item.is c.as_slice-terms.ensures c.if-left-terms.false c.loop-atom.invariant.0 c.loop-atom.invariant.1
