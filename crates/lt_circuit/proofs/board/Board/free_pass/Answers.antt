use Rattle.std.proofs.Common.{◌<◌, length, None, arith}
use Rattle.lt_circuit.proofs.Segments.{claim_is}
use Rattle.lt_circuit.proofs.board.Board.free_pass.Goals as goal

pub returns-clause-state : goal.returns-clause-state
returns-clause-state c =
    let b = c.self.inside in
    let worker : c.args.worker < length b.holders = omega (arith, c.requires, c.self.invariant.claims_there) in
    rw (← c.self.view_is, c.free.ensures.free) (claim_is b.nodes b.jobs b.done.items b.holders c.args.worker None worker)
