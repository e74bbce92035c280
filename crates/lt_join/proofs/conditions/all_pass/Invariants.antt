use Rattle.std.proofs.Common.{◌≡◌, drop}
use Rattle.std.specs.List.{list_all}
use Rattle.lt_model.specs.Answers.{passes}
use Rattle.lt_join.specs.Values.{values_in, assigned}
use Rattle.lt_join.proofs.conditions.all_pass.Given as goal

abbrev pub invariant-loop-test : goal.invariant-loop-test
invariant-loop-test l = list_all (passes (assigned (values_in l.values.cells))) l.tests ≡ list_all (passes (assigned (values_in l.values.cells))) (drop l.test-index l.tests)
