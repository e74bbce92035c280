use Rattle.lt_input.proofs.Feeding.{push_is_fed}
use Rattle.lt_input.proofs.fed.Fed.push.Goals as goal

pub invariant_of-self : goal.invariant_of-self
invariant_of-self c = (push_is_fed c.push.result _ _ _ c.push.ensures.fed c.push.ensures.refused c.self.invariant.0, c.push.ensures.«open»)
