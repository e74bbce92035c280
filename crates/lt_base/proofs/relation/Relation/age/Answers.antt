use Rattle.lt_base.proofs.relation.Relation.age.Goals as goal

pub invariant_of-self : goal.invariant_of-self
invariant_of-self c = (c.self.invariant.0, c.age_all.ensures c.self.inside.first.width c.self.inside.first.rows c.self.invariant.1)
