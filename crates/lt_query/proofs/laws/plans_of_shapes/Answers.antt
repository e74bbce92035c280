use Rattle.lt_query.proofs.SameShape.{plan_of-shape, filled-shape}
use Rattle.lt_query.proofs.laws.plans_of_shapes.Goals as goal

pub returns-clause-blank : goal.returns-clause-blank
returns-clause-blank c = plan_of-shape

pub returns-clause-filled : goal.returns-clause-filled
returns-clause-filled c = filled-shape
