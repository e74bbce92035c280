use Rattle.std.proofs.Common.{◌≡◌, ◌++◌, take}
use Rattle.lt_program.proofs.KeysLooked.{others_of}
use Rattle.lt_program.proofs.displacing.add_others.Given as goal

abbrev pub invariant-loop-other : goal.invariant-loop-other
invariant-loop-other l = l.displaced.items ≡ l.fn.displaced.items ++ others_of l.row (take l.other-index l.alike)
