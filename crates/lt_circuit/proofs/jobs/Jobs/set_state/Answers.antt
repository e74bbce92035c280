use Rattle.std.proofs.Common.{◌<◌, ◌∙◌, length, arith}
use Rattle.std.proofs.lemmas.List.{get_or_default}
use Rattle.lt_circuit.proofs.Placing.{state_set}
use Rattle.lt_circuit.proofs.jobs.Jobs.set_state.Goals as goal

pub invariant_of-self : goal.invariant_of-self
invariant_of-self c =
    let b = c.self.inside in
    let lt : c.code-code.result < length b.states.items = omega (arith, c.code-code.ensures, rw (← c.self.view_is) at c.requires) in
    let at = c.index.ensures ∙ get_or_default b.places.items c.code-code.result c.index.result.now 0 (omega (arith, lt, c.self.invariant.places_long)) in
    state_set b.states.items b.order.items b.places.items b.low c.self.invariant c.code-code.result c.lowered-self-inside.result c.args.state lt c.lowered-self-inside.ensures.still
    (λ e. let here = c.lowered-self-inside.ensures.here e in omega (arith, here, at))
