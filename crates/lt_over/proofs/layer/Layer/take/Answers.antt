use Rattle.std.proofs.Common.{sym, ◌∙◌}
use Rattle.lt_over.proofs.layer.Layer.take.Goals as goal

pub invariant_of-self : goal.invariant_of-self
invariant_of-self c = c.take_row.ensures.come_width ∙ c.self.invariant ∙ sym c.take_row.ensures.gone_width

pub invariant_of-self-2 : goal.invariant_of-self-2
invariant_of-self-2 c = c.take_row.ensures.come_width ∙ c.self.invariant ∙ sym c.take_row.ensures.gone_width
