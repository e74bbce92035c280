use Rattle.std.proofs.Common.{◌≡◌, take}
use Rattle.lt_model.specs.Answers.{cells_of}
use Rattle.lt_join.specs.Values.{values_in, assigned}
use Rattle.lt_join.proofs.values.Values.row.Given as goal

abbrev pub invariant-loop-term : goal.invariant-loop-term
invariant-loop-term l = l.row ≡ cells_of (assigned (values_in l.self.cells)) (take l.term-index l.terms)
