use Rattle.lt_circuit.proofs.Handed.{handed_set}
use Rattle.lt_circuit.proofs.nodes.Nodes.hand.Goals as goal

pub invariant_of-self : goal.invariant_of-self
invariant_of-self c = handed_set c.self.inside.nodes.items c.self.inside.handed.items c.self.invariant c.args.node (rw (← c.self.view_is) at c.requires.inside) (rw (← c.self.view_is) at c.requires.same)
