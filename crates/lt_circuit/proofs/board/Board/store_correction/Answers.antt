use Rattle.std.proofs.Common.{◌∙◌, ap, sym}
use Rattle.lt_circuit.specs.Board.{state_of}
use Rattle.lt_circuit.proofs.Waking.{correction_changed, correction_same}
use Rattle.lt_circuit.proofs.board.Board.store_correction.Goals as goal

pub returns-then-changed-clause-state : goal.returns-then-changed-clause-state
returns-then-changed-clause-state c = λ does.
    let inside = rw (← c.self.view_is) at c.requires in
    let is = correction_changed does _ c.args.node c.args.marks inside c.self.invariant.nodes_there c.self.invariant.states_there in
    let differs = c.is_change-changed.ensures.changed c.if-changed.true in
    rw (← c.self.view_is) ((rw c.put_correction-old.ensures at (ap state_of c.wake_correction.ensures)) ∙ is (λ e. differs (c.correction.ensures ∙ e)))

pub returns-else-changed-clause-state : goal.returns-else-changed-clause-state
returns-else-changed-clause-state c = λ does.
    let inside = rw (← c.self.view_is) at c.requires in
    let is = correction_same does _ c.args.node c.args.marks inside c.self.invariant.nodes_there c.self.invariant.states_there in
    rw (← c.self.view_is, c.put_correction-old.ensures) (is (sym c.correction.ensures ∙ c.is_change-changed.ensures.same c.if-changed.false))
