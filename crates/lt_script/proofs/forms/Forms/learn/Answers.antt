use Rattle.std.proofs.Common.{ℕ, List, ap, ◌∙◌}
use Rattle.lt_model.specs.Forms.{filled}
use Rattle.lt_model.specs.declared.syntax.Statement.{Statement}
use Rattle.lt_script.proofs.forms.Forms.learn.Goals as goal

pub returns : goal.returns
returns c = c.of_form.ensures ∙ (ap (λ (f : List ℕ × Statement). filled f.1 c.in_ok-reading.cells.items) (c.in_ok-form.ensures.cases ∙ c.reading.view_is) ∙ c.in_ok-reading.ensures)
