use Rattle.lt_restate.proofs.First.{IsFirstOf}
use Rattle.lt_restate.proofs.touched.first_place.Given as goal

abbrev pub invariant-loop-i : goal.invariant-loop-i
invariant-loop-i l = IsFirstOf l.changes l.i l.place
