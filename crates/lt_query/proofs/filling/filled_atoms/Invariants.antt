use Rattle.std.proofs.Common.{◌≡◌, map, take}
use Rattle.lt_model.specs.Forms.{put, on_atom}
use Rattle.lt_query.proofs.filling.filled_atoms.Given as goal

abbrev pub invariant-loop-atom : goal.invariant-loop-atom
invariant-loop-atom l = l.list ≡ map (on_atom (put l.cells)) (take l.atom-index l.atoms)
