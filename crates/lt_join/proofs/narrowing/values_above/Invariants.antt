use Rattle.std.specs.Prelude.{length}
use Rattle.lt_model.specs.Answers.{Assignment}
use Rattle.lt_query.specs.Plan.{keys_under}
use Rattle.lt_join.specs.Explored.{AgreeBelow}
use Rattle.lt_join.specs.Narrowed.{Agrees}
use Rattle.lt_join.specs.Values.{values_in}
use Rattle.lt_join.specs.Walked.{at}
use Rattle.lt_join.proofs.narrowing.values_above.Given as goal

abbrev pub invariant-loop-l : goal.invariant-loop-l
invariant-loop-l l = (a : Assignment) → AgreeBelow (length l.keys) (at l.keys) (keys_under a l.levels) → Agrees (values_in l.above.cells) a
