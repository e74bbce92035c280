use Rattle.std.proofs.Common.{rules, sym, ◌∙◌}
use Rattle.lt_circuit.proofs.OnWay.{lowest_next, lowest_here}
use Rattle.lt_circuit.proofs.OneJob.{pending_is}
use Rattle.lt_circuit.specs.Circuit.{state}
use Rattle.lt_circuit.proofs.circuit.Circuit.lowest_pending_leaf.Goals as goal

pub loop-leaf-preserved : goal.loop-leaf-preserved
loop-leaf-preserved g c =
    c.loop-leaf.invariant
    ∙ lowest_next (state c.args.self.now) c.loop-leaf.leaf c.args.leaves c.loop-leaf-test.true (sym (pending_is c.is_pending.result _ c.is_pending.ensures) ∙ c.if-is_pending.false)

pub returns-then-is_pending-clause-lowest : goal.returns-then-is_pending-clause-lowest
returns-then-is_pending-clause-lowest g c =
    sym (c.loop-leaf.invariant ∙ lowest_here (state c.args.self.now) c.loop-leaf.leaf c.args.leaves c.loop-leaf-test.true (sym (pending_is c.is_pending.result _ c.is_pending.ensures) ∙ c.if-is_pending.true))

pub loop-leaf-init : goal.loop-leaf-init
loop-leaf-init g c = search rules
