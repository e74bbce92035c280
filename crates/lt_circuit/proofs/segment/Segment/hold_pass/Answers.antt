use Rattle.std.proofs.Common.{ap, ◌∙◌, Some, None}
use Rattle.lt_net.specs.Net.{State}
use Rattle.lt_net.specs.declared.job.JobState.TheVariants.{Running}
use Rattle.lt_circuit.specs.Board.{state_of}
use Rattle.lt_circuit.specs.Segment.{passing, with_claim}
use Rattle.lt_circuit.proofs.Segments.{pass_claimed}
use Rattle.lt_circuit.proofs.segment.Segment.hold_pass.Goals as goal

pub returns-clause-state : goal.returns-clause-state
returns-clause-state c = λ effect.
    let g = c.self.inside in
    let ins = rw (← c.self.view_is) at c.requires.inputs in
    rw (← c.self.view_is) (ap (λ (s : State). passing s Running) c.hold_pass.ensures.state
    ∙ ap (λ xs. passing (with_claim (state_of g.board) c.args.worker (Some (record { job = 2047; inputs = xs; prior = None }))) Running) ins
    ∙ pass_claimed effect g.board.leaves g.on (state_of g.board) g.pass c.args.worker)

pub returns-clause-claims : goal.returns-clause-claims
returns-clause-claims c = rw (← c.self.view_is) c.hold_pass.ensures.claims
