use Rattle.lt_circuit.proofs.RowOpening.{opening_next}
use Rattle.lt_circuit.proofs.row.opening.opened.Goals as goal

pub loop-s-preserved : goal.loop-s-preserved
loop-s-preserved c =
    let ok = c.in_ok-segment.ensures in
    opening_next c.loop-s.segments.items c.push.new.self.items c.in_ok-segment.segment c.args.leaves.now c.loop-s.s c.loop-s.invariant c.in_ok-push.ensures.items
    (record { size = ok.leaves; hands = ok.on; free = ok.free; state = ok.state })
