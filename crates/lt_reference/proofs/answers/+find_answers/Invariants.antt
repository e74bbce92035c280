use Rattle.std.proofs.Common.{◌≡◌, ◌++◌, length, take}
use Rattle.std.specs.Prelude.{flat_map}
use Rattle.lt_join.specs.Values.{values_in}
use Rattle.lt_reference.specs.Walk.{bare}
use Rattle.lt_reference.proofs.WholePicks.{row_found}
use Rattle.lt_reference.proofs.answers.+find_answers.Given as goal

abbrev pub decreases-find_answers : goal.decreases-find_answers
decreases-find_answers l = length l.atoms.now

abbrev pub invariant-loop-row : goal.invariant-loop-row
invariant-loop-row l = l.found.items ≡ l.initial.found.items ++ flat_map (row_found (values_in l.values.cells) l.atom l.rest l.tests l.absents (bare l.relations) l.terms) (take l.row-index l.row-items)
