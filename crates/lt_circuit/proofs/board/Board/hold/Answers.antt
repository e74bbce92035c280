use Rattle.std.proofs.Common.{◌<◌, length, arith}
use Rattle.lt_net.specs.Tree.{circuit_net, tree_of}
use Rattle.lt_net.specs.Codes.{code_of}
use Rattle.lt_circuit.specs.declared.cells.Held.{Held}
use Rattle.lt_circuit.proofs.Tables.{hold_is}
use Rattle.lt_circuit.proofs.board.Board.hold.Goals as goal

pub returns-clause-claims : goal.returns-clause-claims
returns-clause-claims c = (record { job = c.args.job; inputs = c.args.inputs; prior = c.args.prior }, rw (← c.self.view_is) c.hold.ensures)

pub returns-clause-state : goal.returns-clause-state
returns-clause-state c = λ effect.
    let b = c.self.inside in
    let net = circuit_net effect (tree_of b.leaves) in
    let held : Held = record { job = c.args.job; inputs = c.args.inputs; prior = c.args.prior } in
    let ins = rw (← c.self.view_is) at (c.requires.inputs effect) in
    let prior = rw (← c.self.view_is) at c.requires.prior in
    let job : code_of c.args.job < length b.jobs = omega (arith, rw (← c.self.view_is) at c.requires.job, c.self.invariant.states_there) in
    let worker : c.args.worker < length b.holders = omega (arith, c.requires.worker, c.self.invariant.claims_there) in
    rw (← c.self.view_is, c.set_state.ensures, c.hold.ensures) (hold_is net b.nodes b.jobs b.done.items b.holders c.args.worker held job worker ins prior)
