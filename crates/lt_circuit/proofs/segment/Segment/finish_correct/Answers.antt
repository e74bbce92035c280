use Rattle.std.proofs.Common.{◌∙◌, ap, sym, arith}
use Rattle.lt_net.specs.Net.{State}
use Rattle.lt_circuit.specs.Board.{state_of}
use Rattle.lt_circuit.specs.Segment.{passing}
use Rattle.lt_circuit.proofs.Finishes.{correct_is}
use Rattle.lt_circuit.proofs.Segments.{corrected_finished, right_some}
use Rattle.lt_circuit.proofs.segment.Segment.finish_correct.Goals as goal

pub returns-clause-state : goal.returns-clause-state
returns-clause-state c = λ does claim left job ins is.
    let g = c.self.inside in
    let inner = rw (← c.self.view_is) at c.requires.inner in
    let node = rw (← c.self.view_is) at c.requires.node in
    let small = rw (← c.self.view_is) at c.requires.small in
    let y = right_some g.board.leaves c.args.node inner in
    let e = ap (λ (t : State). t.value) (sym (correct_is does g.board.leaves (state_of g.board) c.args.worker claim c.args.node y.0 c.args.to_left left c.args.to_right (omega (arith, node)) y.1 job ins is)) in
    rw (← c.self.view_is) (ap (λ (t : State). passing t g.pass) (c.finish_correct.ensures.state does claim left job ins is)
    ∙ corrected_finished does g.board.leaves g.on (state_of g.board) g.pass c.args.worker claim (λ f. omega (arith, f, job, node, small)) c.args.node y.0 c.args.to_left c.args.to_right y.2 e)
