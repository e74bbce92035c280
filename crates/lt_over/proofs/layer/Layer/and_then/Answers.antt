use Rattle.std.proofs.Common.{ap, sym, ◌∙◌}
use Rattle.lt_over.specs.Layers.{Edits, under}
use Rattle.lt_over.specs.Overlaid.{overlaid}
use Rattle.lt_over.proofs.Edited.{laid_over}
use Rattle.lt_over.proofs.layer.Layer.and_then.Goals as goal

pub returns-clause-rows : goal.returns-clause-rows
returns-clause-rows c = λ rows up.
    laid_over rows c.first.inside.gone.rows c.first.inside.come.rows c.second.inside.gone.rows c.second.inside.come.rows c.in_ok-gone.gone.rows c.in_ok-left.left.rows c.in_ok-come.come.rows up
    c.in_ok-gone.ensures.rows c.in_ok-left.ensures.rows c.in_ok-come.ensures.rows
    ∙ ap (λ (l : Edits). under (overlaid rows c.first.inside.gone.rows c.first.inside.come.rows) l) c.second.view_is
    ∙ ap (λ (l : Edits). under (under rows l) c.args.second.now) c.first.view_is

pub invariant_of-result : goal.invariant_of-result
invariant_of-result c = c.in_ok-come.ensures.width ∙ c.in_ok-left.ensures.width ∙ c.first.invariant ∙ sym c.in_ok-gone.ensures.width
