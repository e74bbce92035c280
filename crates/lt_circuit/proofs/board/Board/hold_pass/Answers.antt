use Rattle.std.proofs.Common.{◌<◌, length, Some, None, arith}
use Rattle.lt_net.specs.declared.job.JobName.TheVariants.{Pass}
use Rattle.lt_circuit.specs.declared.cells.Held.{Held}
use Rattle.lt_circuit.proofs.Segments.{claim_is}
use Rattle.lt_circuit.proofs.board.Board.hold_pass.Goals as goal

pub returns-clause-claims : goal.returns-clause-claims
returns-clause-claims c = (record { job = Pass 0; inputs = c.args.inputs; prior = None }, rw (← c.self.view_is) c.hold.ensures)

pub returns-clause-state : goal.returns-clause-state
returns-clause-state c =
    let b = c.self.inside in
    let held : Held = record { job = Pass 0; inputs = c.args.inputs; prior = None } in
    let worker : c.args.worker < length b.holders = omega (arith, c.requires, c.self.invariant.claims_there) in
    rw (← c.self.view_is, c.hold.ensures) (claim_is b.nodes b.jobs b.done.items b.holders c.args.worker (Some held) worker)
