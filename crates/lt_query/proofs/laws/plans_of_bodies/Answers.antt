use Rattle.lt_query.proofs.StatedPlan.{one_stated_plan}
use Rattle.lt_query.proofs.Running.{widths_of, IsRunnable-of}
use Rattle.lt_query.proofs.laws.plans_of_bodies.Goals as goal

pub returns-clause-widths : goal.returns-clause-widths
returns-clause-widths c = widths_of

pub returns-clause-runnable : goal.returns-clause-runnable
returns-clause-runnable c = IsRunnable-of

pub returns-clause-one : goal.returns-clause-one
returns-clause-one c = one_stated_plan
