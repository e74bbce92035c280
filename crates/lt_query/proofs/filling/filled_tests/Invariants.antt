use Rattle.std.proofs.Common.{◌≡◌, map, take}
use Rattle.lt_model.specs.Forms.{put, on_test}
use Rattle.lt_query.proofs.filling.filled_tests.Given as goal

abbrev pub invariant-loop-test : goal.invariant-loop-test
invariant-loop-test l = l.list ≡ map (on_test (put l.cells)) (take l.test-index l.tests)
