use Rattle.lt_script.proofs.Numbered.{numbers_literal}
use Rattle.lt_script.proofs.blanking.blanked_body.Goals as goal

pub loop-literal-preserved : goal.loop-literal-preserved
loop-literal-preserved c = record {
  can_next = tt;
  is_finite = tt;
  numbers = numbers_literal _ _ _ _ _ _ _ _ c.in_ok-literal.ensures.literal c.in_ok-literal.ensures.cells c.in_ok-push.ensures.ok c.loop-literal.invariant.numbers;
}
