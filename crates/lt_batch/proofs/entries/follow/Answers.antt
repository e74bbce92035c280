use Rattle.std.proofs.Common.{◌≡◌, ◌∙◌, ◌+◌, false, true, length, sym}
use Rattle.lt_circuit.specs.Circuit.{state}
use Rattle.lt_circuit.specs.Shape.{shape, shape_net}
use Rattle.lt_batch.proofs.Following.{not_all, this_entry}
use Rattle.lt_batch.proofs.entries.follow.Goals as goal

pub returns-clause-fault : goal.returns-clause-fault
returns-clause-fault g c =
    let net = shape_net (shape g.W.LeafWork.does c.args.circuit.now) in
    this_entry net c.args.entries.now (length c.args.entries.now + 1)
    (not_all net c.args.entries.now (state c.go_through.new.circuit) c.in_ok-go_through.ensures.legal
    (λ settled. let f : false ≡ true = sym c.if-is_settled.false ∙ c.settled-is_settled.ensures.1 settled in cc))
