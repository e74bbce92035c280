use Rattle.std.proofs.Common.{◌∙◌}
use Rattle.lt_input.proofs.Feeding.{step_is_fed, step_is_within}
use Rattle.lt_input.proofs.fed.Fed.next_step.Goals as goal

pub invariant_of-self : goal.invariant_of-self
invariant_of-self c = (step_is_fed c.next_step.result c.self.inside.feed c.next_step.new.self c.next_step.ensures.step c.self.invariant.0, c.next_step.ensures.ended ∙ c.self.invariant.1)

pub returns-clause-within : goal.returns-clause-within
returns-clause-within c = step_is_within c.next_step.result c.self.inside.feed c.next_step.new.self c.next_step.ensures.step c.self.invariant.0
