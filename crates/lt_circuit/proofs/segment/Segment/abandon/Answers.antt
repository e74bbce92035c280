use Rattle.std.proofs.Common.{ap, sym, ◌∙◌}
use Rattle.lt_net.specs.Net.{State}
use Rattle.lt_circuit.specs.Board.{state_of}
use Rattle.lt_circuit.specs.Segment.{passing}
use Rattle.lt_circuit.proofs.Segments.{passing_abandoned}
use Rattle.lt_circuit.proofs.segment.Segment.abandon.Goals as goal

pub returns-clause-state : goal.returns-clause-state
returns-clause-state c = λ claim e.
    let g = c.self.inside in
    rw (← c.self.view_is) (ap (λ (s : State). passing s g.pass) (c.abandon.ensures.state claim e)
    ∙ passing_abandoned (λ i m. m) g.board.leaves g.on (state_of g.board) g.pass c.args.worker claim (λ f. c.requires.tree (sym e ∙ f)))
