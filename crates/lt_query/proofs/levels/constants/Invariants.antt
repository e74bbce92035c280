use Rattle.std.proofs.Common.{◌≡◌, take}
use Rattle.lt_query.specs.LevelsOf.{constants_of}
use Rattle.lt_query.proofs.levels.constants.Given as goal

abbrev pub invariant-loop-test : goal.invariant-loop-test
invariant-loop-test l = l.constants ≡ constants_of (take l.test-index l.tests) l.v
