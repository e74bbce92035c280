use Rattle.lt_join.proofs.OpenedAtoms.{guide_moved}
use Rattle.lt_join.proofs.atom_iter.AtomIterKeyIter.seek.Goals as goal

pub invariant_of-self : goal.invariant_of-self
invariant_of-self g c = guide_moved c.self.inside.guide.now c.self.inside.trie c.seek.new.self (c.args.to) c.self.invariant c.seek.ensures.still c.seek.ensures.here
