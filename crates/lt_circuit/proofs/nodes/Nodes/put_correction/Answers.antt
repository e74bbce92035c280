use Rattle.lt_circuit.proofs.Handed.{correction_put}
use Rattle.lt_circuit.proofs.nodes.Nodes.put_correction.Goals as goal

pub invariant_of-self : goal.invariant_of-self
invariant_of-self c =
    correction_put c.self.inside.nodes.items c.self.inside.handed.items c.self.invariant c.args.node (rw (← c.self.view_is) at c.requires) _ c.saturating_sub.result c.saturating_sub.ensures
