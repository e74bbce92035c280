use Rattle.std.proofs.Common.{◌≡◌, ◌<◌, ◌∙◌, ap, sym, length, get_or, arith}
use Rattle.lt_net.specs.declared.job.JobState.TheVariants.{Clean}
use Rattle.lt_net.specs.Net.{ended}
use Rattle.lt_circuit.proofs.Tables.{close_is}
use Rattle.lt_circuit.proofs.board.Board.close.Goals as goal

pub returns-clause-state : goal.returns-clause-state
returns-clause-state c = λ claim e.
    let b = c.self.inside in
    let job : claim.job < length b.jobs = omega (arith, rw (← c.self.view_is) at c.requires.job, e, c.self.invariant.states_there) in
    let worker : c.args.worker < length b.holders = omega (arith, c.requires.worker, c.self.invariant.claims_there) in
    let is : c.ended.result ≡ ended (get_or b.jobs claim.job Clean) = c.ended.ensures ∙ ap ended c.state-state.ensures ∙ ap (λ j. ended (get_or b.jobs j Clean)) (sym e) in
    rw (← c.self.view_is, c.set_state.ensures, c.free.ensures.free, ← e) (close_is b.nodes b.jobs b.done.items b.holders c.args.worker claim c.ended.result job worker is)
