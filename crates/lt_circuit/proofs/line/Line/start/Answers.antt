use Rattle.std.proofs.Common.{ap}
use Rattle.std.specs.Arc.{arc_value}
use Rattle.std.specs.Vec.{vec_len, vec_capacity}
use Rattle.lt_net.specs.Net.{State}
use Rattle.lt_circuit.proofs.LineTables.{start_line}
use Rattle.lt_circuit.proofs.line.Line.start.Goals as goal

pub invariant_of-result : goal.invariant_of-result
invariant_of-result g c =
    let w = arc_value c.args.work in
    rw c.in_ok-journal.ensures.items
    (start_line (g.W.LeafWork.does w) (g.W.LeafWork.stands_for w) (g.W.LeafWork.fits w) (g.W.LeafWork.has w) c.in_ok-row.row c.in_ok-tallies.tallies.items c.args.leaves.now c.places_for-places.result
    (vec_len c.in_ok-journal.journal) (vec_capacity c.in_ok-journal.journal) c.in_ok-row.ensures.sizes c.requires.few c.requires.has (c.in_ok-row.ensures.state (g.W.LeafWork.does w)) c.in_ok-tallies.ensures
    c.places_for-places.ensures.all c.in_ok-row.ensures.free c.in_ok-journal.ensures.len)

pub returns-clause-state : goal.returns-clause-state
returns-clause-state g c = c.in_ok-row.ensures.state (g.W.LeafWork.does (arc_value c.args.work))

pub returns-clause-free : goal.returns-clause-free
returns-clause-free g c = λ w. ap (λ (s : State). s.claim w) (c.in_ok-row.ensures.state (g.W.LeafWork.does (arc_value c.args.work)))
