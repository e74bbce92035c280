use Rattle.std.proofs.Common.{◌≡◌, arith}
use Rattle.lt_circuit.proofs.Waking.{root_unread}
use Rattle.lt_circuit.proofs.board.Board.give_root.Goals as goal

pub returns-clause-state : goal.returns-clause-state
returns-clause-state c = λ does.
    let b = c.self.inside in
    let none : b.leaves ≡ 0 = omega (arith, c.if-self-gt0.false) in
    rw (← c.self.view_is, c.put_correction.ensures) (root_unread does _ c.args.marks none c.self.invariant.nodes_there)
