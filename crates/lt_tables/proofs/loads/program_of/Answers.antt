use Rattle.std.proofs.Common.{◌≤◌, ◌+◌, IfSome, length, subst, sym}
use Rattle.std.specs.List.{AllByRecursion}
use Rattle.lt_model.specs.Limits.{IsStatementWithin}
use Rattle.lt_tables.proofs.Loading.{all_more, length_more}
use Rattle.lt_tables.proofs.loads.program_of.Goals as goal

pub loop-step-preserved : goal.loop-step-preserved
loop-step-preserved c =
    let pushed = c.in_ok-push.ensures.ok in
    let within = subst IsStatementWithin (sym c.whole.ensures) (subst (λ o. IfSome o IsStatementWithin) c.in-Some.is c.in_ok-statement.ensures) in (
      subst (AllByRecursion IsStatementWithin) (sym pushed) (all_more IsStatementWithin c.loop-step.statements _ c.loop-step.invariant.0 within),
      subst (λ xs. length xs ≤ c.loop-step.step + 1) (sym pushed) (length_more c.loop-step.statements _ c.loop-step.step c.loop-step.invariant.1),
    )
