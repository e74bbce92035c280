use Rattle.std.proofs.Common.{◌≡◌, drop}
use Rattle.lt_sense.specs.Apart.{stands}
use Rattle.lt_sense.proofs.halves.stands_to.Given as goal

abbrev pub invariant-loop-i : goal.invariant-loop-i
invariant-loop-i l = stands l.prefix l.lo l.hi l.cells ≡ stands (drop l.i l.prefix) l.lo l.hi (drop l.i l.cells)
