use Rattle.std.proofs.Common.{◌∙◌, ap, sym}
use Rattle.lt_circuit.specs.Board.{state_of}
use Rattle.lt_circuit.proofs.Waking.{effect_changed, effect_same}
use Rattle.lt_circuit.proofs.board.Board.store_effect.Goals as goal

pub returns-then-changed-clause-state : goal.returns-then-changed-clause-state
returns-then-changed-clause-state c = λ does.
    let inside = rw (← c.self.view_is) at c.requires in
    let is = effect_changed does _ c.args.node c.args.marks inside c.self.invariant.nodes_there c.self.invariant.states_there in
    let differs = c.is_change-changed.ensures.changed c.if-changed.true in
    rw (← c.self.view_is) ((rw c.put_effect-old.ensures at (ap state_of c.wake_effect.ensures)) ∙ is (λ e. differs (c.effect.ensures ∙ e)))

pub returns-else-changed-clause-state : goal.returns-else-changed-clause-state
returns-else-changed-clause-state c = λ does.
    let inside = rw (← c.self.view_is) at c.requires in
    let is = effect_same does _ c.args.node c.args.marks inside c.self.invariant.nodes_there c.self.invariant.states_there in
    rw (← c.self.view_is, c.put_effect-old.ensures) (is (sym c.effect.ensures ∙ c.is_change-changed.ensures.same c.if-changed.false))
