use Rattle.std.proofs.Common.{take}
use Rattle.lt_face.specs.Rows.{IsAscending}
use Rattle.lt_answers.proofs.ascending.are_ascending.Given as goal

abbrev pub invariant-loop-i : goal.invariant-loop-i
invariant-loop-i l = IsAscending (take l.i l.rows)
