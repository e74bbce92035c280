use Rattle.std.proofs.Common.{◌≡◌, false, take}
use Rattle.lt_face.specs.Rows.{has_row}
use Rattle.lt_reference.proofs.answers.is_among.Given as goal

abbrev pub invariant-loop-other : goal.invariant-loop-other
invariant-loop-other l = has_row (take l.other-index l.rows) l.row ≡ false
