use Rattle.std.proofs.Common.{◌≡◌, take, false}
use Rattle.lt_program.specs.Run.{are_marked}
use Rattle.lt_program.proofs.reading.are_marked.Given as goal

abbrev pub invariant-loop-atom : goal.invariant-loop-atom
invariant-loop-atom l = are_marked l.marks (take l.atom-index l.atoms) ≡ false
