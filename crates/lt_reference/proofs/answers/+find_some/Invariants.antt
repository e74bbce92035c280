use Rattle.std.proofs.Common.{◌≡◌, false, length, take}
use Rattle.std.specs.List.{list_any}
use Rattle.lt_join.specs.Values.{values_in}
use Rattle.lt_reference.specs.Walk.{bare}
use Rattle.lt_reference.proofs.WholePicks.{row_some}
use Rattle.lt_reference.proofs.answers.+find_some.Given as goal

abbrev pub decreases-find_some : goal.decreases-find_some
decreases-find_some l = length l.atoms.now

abbrev pub invariant-loop-row : goal.invariant-loop-row
invariant-loop-row l = list_any (row_some (values_in l.values.cells) l.atom l.rest l.tests l.absents (bare l.relations)) (take l.row-index l.row-items) ≡ false
