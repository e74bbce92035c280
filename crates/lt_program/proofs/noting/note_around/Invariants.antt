use Rattle.std.proofs.Common.{length}
use Rattle.lt_program.proofs.Noted.{AreNotedTo}
use Rattle.lt_program.proofs.noting.note_around.Given as goal

abbrev pub invariant-loop-i : goal.invariant-loop-i
invariant-loop-i l = AreNotedTo l.keys l._row l.alike l.i l.place.relation (length l.place.columns) l.fn.sense l.sense
