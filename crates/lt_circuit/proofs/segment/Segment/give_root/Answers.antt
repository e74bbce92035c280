use Rattle.std.proofs.Common.{◌∙◌}
use Rattle.lt_circuit.specs.Board.{state_of}
use Rattle.lt_circuit.specs.Segment.{passing}
use Rattle.lt_circuit.proofs.Segments.{passing_given}
use Rattle.lt_circuit.proofs.segment.Segment.give_root.Goals as goal

pub returns-clause-state : goal.returns-clause-state
returns-clause-state c = λ effect.
    let g = c.self.inside in
    rw (← c.self.view_is) ((λ i. passing (c.give_root.ensures.state effect i) ((rw (← c.self.view_is) at c.pass_given-pass.ensures) i))
    ∙ passing_given effect g.board.leaves g.on (state_of g.board) g.pass c.args.correction)
