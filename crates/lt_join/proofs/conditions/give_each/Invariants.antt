use Rattle.std.proofs.Common.{◌≡◌, drop}
use Rattle.lt_model.specs.Answers.{give_all}
use Rattle.lt_join.specs.Values.{values_in}
use Rattle.lt_join.proofs.conditions.give_each.Given as goal

abbrev pub invariant-loop-test : goal.invariant-loop-test
invariant-loop-test l = give_all (values_in l.fn.values.cells) l.tests ≡ give_all (values_in l.values.cells) (drop l.test-index l.tests)
