use Rattle.std.proofs.Common.{◌≡◌, true, take}
use Rattle.lt_model.specs.Answers.{lacks}
use Rattle.lt_join.specs.Values.{values_in, assigned}
use Rattle.lt_reference.specs.Walk.{bare}
use Rattle.lt_reference.proofs.answers.lacks.Given as goal

abbrev pub invariant-loop-atom : goal.invariant-loop-atom
invariant-loop-atom l = lacks (assigned (values_in l.values.cells)) (take l.atom-index l.absents) (bare l.relations) ≡ true
