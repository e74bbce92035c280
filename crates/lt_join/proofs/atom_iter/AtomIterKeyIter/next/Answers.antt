use Rattle.std.proofs.Common.{◌+◌}
use Rattle.lt_join.proofs.OpenedAtoms.{guide_moved}
use Rattle.lt_join.proofs.atom_iter.AtomIterKeyIter.next.Goals as goal

pub invariant_of-self : goal.invariant_of-self
invariant_of-self g c = guide_moved c.self.inside.guide.now c.self.inside.trie c.next.new.self (c.self.inside.trie.here + 1) c.self.invariant c.next.ensures.still c.next.ensures.here
