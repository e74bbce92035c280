use Rattle.std.proofs.Common.{◌≡◌, map, take}
use Rattle.lt_model.specs.Answers.{cell_of}
use Rattle.lt_join.specs.Values.{assigned, values_in}
use Rattle.lt_join.proofs.leaf.is_last.Given as goal

abbrev pub invariant-loop-i : goal.invariant-loop-i
invariant-loop-i l = take l.i l.cells ≡ map (cell_of (assigned (values_in l.values.cells))) (take l.i l.terms)
