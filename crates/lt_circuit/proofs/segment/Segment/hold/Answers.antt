use Rattle.std.proofs.Common.{ap, ◌∙◌}
use Rattle.lt_net.specs.Net.{State}
use Rattle.lt_net.specs.Codes.{code_of}
use Rattle.lt_circuit.specs.Board.{state_of}
use Rattle.lt_circuit.specs.Segment.{passing}
use Rattle.lt_circuit.proofs.Segments.{passing_claimed}
use Rattle.lt_circuit.proofs.segment.Segment.hold.Goals as goal

pub returns-clause-state : goal.returns-clause-state
returns-clause-state c = λ effect.
    let g = c.self.inside in
    rw (← c.self.view_is) (ap (λ (s : State). passing s g.pass) (c.hold.ensures.state effect) ∙ passing_claimed effect g.board.leaves g.on (state_of g.board) g.pass c.args.worker (code_of c.args.job) c.requires.tree)

pub hold-requires-clause-inputs : goal.hold-requires-clause-inputs
hold-requires-clause-inputs c = λ effect. rw (← c.self.view_is) at (c.requires.inputs effect)

pub returns-clause-claims : goal.returns-clause-claims
returns-clause-claims c = rw (← c.self.view_is) c.hold.ensures.claims
