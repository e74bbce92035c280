use Rattle.std.proofs.Common.{◌∙◌, ap, sym, arith}
use Rattle.lt_net.specs.Net.{Effect, State}
use Rattle.lt_circuit.specs.Board.{state_of}
use Rattle.lt_circuit.specs.Segment.{passing}
use Rattle.lt_circuit.proofs.Finishes.{merge_is}
use Rattle.lt_circuit.proofs.Segments.{stored_finished}
use Rattle.lt_circuit.proofs.segment.Segment.finish_merge.Goals as goal

pub returns-clause-state : goal.returns-clause-state
returns-clause-state c = λ does claim left right job ins is.
    let g = c.self.inside in
    let inner = rw (← c.self.view_is) at c.requires.inner in
    let node = rw (← c.self.view_is) at c.requires.node in
    let small = rw (← c.self.view_is) at c.requires.small in
    let e = ap (λ (t : State). t.value) (sym (merge_is does g.board.leaves (state_of g.board) c.args.worker claim c.args.node c.args.effect left right inner job ins is)) in
    let pass = rw (← c.self.view_is) at c.pass_stored-pass.ensures in
    rw (← c.self.view_is) ((λ i. passing (c.finish_merge.ensures.state does claim left right job ins is i) (pass i))
    ∙ stored_finished does g.board.leaves g.on (state_of g.board) g.pass c.args.worker claim (λ f. omega (arith, f, job, node, small)) (Effect c.args.node) c.args.effect e)
