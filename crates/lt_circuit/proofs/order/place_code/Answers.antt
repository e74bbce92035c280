use Rattle.std.proofs.Common.{◌≡◌, ◌<◌, ◌∙◌, length, get_or, subst, arith}
use Rattle.std.proofs.lemmas.List.{get_or_default}
use Rattle.lt_circuit.proofs.Placing.{placed_here, placed_others}
use Rattle.lt_circuit.proofs.order.place_code.Goals as goal

pub returns-then-stands_at-clause-here : goal.returns-then-stands_at-clause-here
returns-then-stands_at-clause-here c =
    let at = c.index.ensures ∙ get_or_default c.args.places.now.items c.args.code c.index.result.now 0 c.requires in
    let h = rw c.deref.ensures.value at (c.stands_at.ensures c.if-stands_at.true) in
    record { within = subst (λ p. p < length c.args.order.now.items) at h.0; there = subst (λ p. get_or c.args.order.now.items p 0 ≡ c.args.code) at h.1 }

pub returns-clause-others : goal.returns-clause-others
returns-clause-others c =
    let n : c.len.result ≡ length c.args.order.now.items = omega (arith, c.len.ensures) in
    rw (c.in_ok-push.ensures.items, n) (placed_others c.args.order.now.items c.args.places.now.items c.args.code)

pub returns-clause-here : goal.returns-clause-here
returns-clause-here c =
    let n : c.len.result ≡ length c.args.order.now.items = omega (arith, c.len.ensures) in
    rw (c.in_ok-push.ensures.items, n) (placed_here c.args.order.now.items c.args.places.now.items c.args.code c.requires)
