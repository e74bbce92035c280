use Rattle.lt_query.proofs.OnShapes.{shape_stays, route_stays, widths_stay, plan_follows}
use Rattle.lt_query.proofs.laws.plans_of_forms.Goals as goal

pub returns-clause-shape : goal.returns-clause-shape
returns-clause-shape c = shape_stays

pub returns-clause-route : goal.returns-clause-route
returns-clause-route c = route_stays

pub returns-clause-widths : goal.returns-clause-widths
returns-clause-widths c = widths_stay

pub returns-clause-plan : goal.returns-clause-plan
returns-clause-plan c = plan_follows
