use Rattle.lt_program.proofs.Clashes.{AreApartBelow}
use Rattle.lt_program.proofs.displacing.clash.Given as goal

abbrev pub invariant-loop-i : goal.invariant-loop-i
invariant-loop-i l = AreApartBelow l.keys l.all l.i
