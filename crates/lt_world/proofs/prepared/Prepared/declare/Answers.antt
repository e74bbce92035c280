use Rattle.lt_world.proofs.prepared.Prepared.declare.Goals as goal

pub invariant_of-self : goal.invariant_of-self
invariant_of-self c = c.clear.ensures c.declare.new.self
