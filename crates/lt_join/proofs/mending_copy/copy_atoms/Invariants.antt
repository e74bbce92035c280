use Rattle.std.proofs.Common.{◌≡◌, take}
use Rattle.lt_join.proofs.mending_copy.copy_atoms.Given as goal

abbrev pub invariant-loop-atom : goal.invariant-loop-atom
invariant-loop-atom l = l.copy ≡ take l.atom-index l.atoms
