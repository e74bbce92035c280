use Rattle.std.proofs.Common.{◌≡◌, take, false}
use Rattle.lt_batch.specs.Bearing.{bears_on_atoms}
use Rattle.lt_batch.proofs.bearing.bears_on_atoms.Given as goal

abbrev pub invariant-loop-atom : goal.invariant-loop-atom
invariant-loop-atom l = bears_on_atoms l.mark (take l.atom-index l.atoms) ≡ false
