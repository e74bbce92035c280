use Rattle.std.proofs.Common.{◌<◌, length, arith}
use Rattle.lt_circuit.proofs.Tables.{abandon_is}
use Rattle.lt_circuit.proofs.board.Board.abandon.Goals as goal

pub returns-clause-state : goal.returns-clause-state
returns-clause-state c = λ claim e.
    let b = c.self.inside in
    let job : claim.job < length b.jobs = omega (arith, rw (← c.self.view_is) at c.requires.job, e, c.self.invariant.states_there) in
    let worker : c.args.worker < length b.holders = omega (arith, c.requires.worker, c.self.invariant.claims_there) in
    rw (← c.self.view_is, c.set_state.ensures, c.free.ensures.free, ← e) (abandon_is b.nodes b.jobs b.done.items b.holders c.args.worker claim job worker)
