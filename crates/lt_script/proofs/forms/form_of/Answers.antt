use Rattle.std.proofs.Common.{ℕ, List, ap, subst, sym, ◌∙◌}
use Rattle.lt_model.specs.Forms.{IsFormOf}
use Rattle.lt_model.specs.declared.syntax.Statement.{Statement}
use Rattle.lt_script.proofs.forms.form_of.Goals as goal

pub new-form-requires : goal.new-form-requires
new-form-requires c =
    subst (λ (us : List ℕ). IsFormOf us c.in_ok-statement.statement) (sym c.in_ok-text.ensures.items) (subst (IsFormOf c.args.text.now) (sym c.in_ok-statement.ensures.form) c.requires)

pub returns-clause-text : goal.returns-clause-text
returns-clause-text c = ap (λ (f : List ℕ × Statement). f.0) c.in_ok-form.ensures.ok ∙ (c.new-form.ensures.text ∙ c.in_ok-text.ensures.items)

pub returns-clause-statement : goal.returns-clause-statement
returns-clause-statement c = ap (λ (f : List ℕ × Statement). f.1) c.in_ok-form.ensures.ok ∙ (c.new-form.ensures.statement ∙ c.in_ok-statement.ensures.form)

pub returns-clause-cells : goal.returns-clause-cells
returns-clause-cells c = c.in_ok-statement.ensures.cells
