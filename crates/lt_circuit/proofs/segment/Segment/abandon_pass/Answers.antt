use Rattle.std.proofs.Common.{ap, ◌∙◌}
use Rattle.lt_net.specs.Net.{State}
use Rattle.lt_net.specs.declared.job.JobState.TheVariants.{Pending}
use Rattle.lt_circuit.specs.Board.{state_of}
use Rattle.lt_circuit.specs.Segment.{passing}
use Rattle.lt_circuit.proofs.Segments.{pass_abandoned}
use Rattle.lt_circuit.proofs.segment.Segment.abandon_pass.Goals as goal

pub returns-clause-state : goal.returns-clause-state
returns-clause-state c = λ claim e.
    let g = c.self.inside in
    rw (← c.self.view_is) (ap (λ (s : State). passing s Pending) c.free_pass.ensures.state
    ∙ pass_abandoned (λ i m. m) g.board.leaves g.on (state_of g.board) g.pass c.args.worker claim e)
