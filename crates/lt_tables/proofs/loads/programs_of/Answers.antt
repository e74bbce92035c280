use Rattle.std.proofs.Common.{◌≤◌, ◌+◌, length, subst, sym}
use Rattle.std.specs.List.{AllByRecursion}
use Rattle.lt_model.specs.Limits.{IsProgramWithin}
use Rattle.lt_tables.proofs.Loading.{all_more, length_more}
use Rattle.lt_tables.proofs.loads.programs_of.Goals as goal

pub loop-step-preserved : goal.loop-step-preserved
loop-step-preserved c =
    let pushed = c.in_ok-push.ensures.ok in (
      subst (AllByRecursion IsProgramWithin) (sym pushed) (all_more IsProgramWithin c.loop-step.programs _ c.loop-step.invariant.0 c.in_ok-program.ensures),
      subst (λ xs. length xs ≤ c.loop-step.step + 1) (sym pushed) (length_more c.loop-step.programs _ c.loop-step.step c.loop-step.invariant.1),
    )
