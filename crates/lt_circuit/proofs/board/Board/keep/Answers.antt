use Rattle.std.proofs.Common.{◌<◌, length, arith}
use Rattle.lt_circuit.proofs.Tables.{keep_is}
use Rattle.lt_circuit.proofs.board.Board.keep.Goals as goal

pub returns-clause-state : goal.returns-clause-state
returns-clause-state c =
    let b = c.self.inside in
    let there : c.args.leaf < length b.done.items = omega (arith, rw (← c.self.view_is) at c.requires, c.self.invariant.done_there) in
    rw (← c.self.view_is, c.replace.ensures.after) (keep_is b.nodes b.jobs b.done.items b.holders c.args.leaf c.args.correction there)
