use Rattle.lt_check.proofs.Binding.{Alike_atom}
use Rattle.lt_check.proofs.bound.Bound.add_atoms.Goals as goal

pub loop-atom-preserved : goal.loop-atom-preserved
loop-atom-preserved c = Alike_atom _ _ c.atom-item.result _ _ _ _ c.loop-atom-test.true c.atom-item.is c.as_slice.ensures c.loop-atom.invariant c.in_ok-add_terms.ensures
