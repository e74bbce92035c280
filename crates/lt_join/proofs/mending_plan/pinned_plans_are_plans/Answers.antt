use Rattle.lt_join.proofs.PinnedPlan.{IsPlanOf-pinned}
use Rattle.lt_join.proofs.mending_plan.pinned_plans_are_plans.Goals as goal

pub returns : goal.returns
returns c = IsPlanOf-pinned
