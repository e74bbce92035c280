use Rattle.std.proofs.Common.{◌∙◌}
use Rattle.lt_circuit.specs.Board.{state_of}
use Rattle.lt_circuit.specs.Segment.{passing}
use Rattle.lt_circuit.proofs.Segments.{pass_ends}
use Rattle.lt_circuit.proofs.segment.Segment.close_pass.Goals as goal

pub returns-clause-state : goal.returns-clause-state
returns-clause-state c = λ claim e.
    let g = c.self.inside in
    rw (← c.self.view_is) ((λ i. passing (c.free_pass.ensures.state i) (c.ended-self-inside.ensures i))
    ∙ pass_ends (λ i m. m) g.board.leaves g.on (state_of g.board) g.pass c.args.worker claim e)
