use Rattle.std.proofs.lemmas.List.Folds.{list_all_at}
use Rattle.lt_model.specs.Answers.{passes}
use Rattle.lt_join.proofs.narrowing.Above.is_hopeless.Goals as goal

pub returns-then-fails : goal.returns-then-fails
returns-then-fails c = λ _ a agrees. list_all_at (passes a) c.args.tests.now c.loop-test.test-index _ c.loop-test-test.true (c.fails.ensures c.if-fails.true a agrees)
