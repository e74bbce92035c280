use Rattle.std.proofs.Common.{ℕ, List, sym, ap, ◌∙◌}
use Rattle.std.specs.Arc.{arc_value}
use Rattle.lt_model.specs.declared.syntax.Statement.{Statement}
use Rattle.lt_model.specs.Forms.{put, numbered}
use Rattle.lt_model.specs.Kept.{statement_of}
use Rattle.lt_model.proofs.Alike.{numbered-on}
use Rattle.lt_model.proofs.form.Wording.but_for_cells.Goals as goal

pub returns-in-Filled : goal.returns-in-Filled
returns-in-Filled c =
    let form = arc_value c.in-Filled.form in
    ap numbered (c.statement.ensures.same ∙ ap (λ (v : List ℕ × Statement). v.1) c.deref.ensures)
    ∙ (sym (numbered-on (put c.in-Filled.field-1.items) form.1) ∙ ap numbered (sym (ap statement_of c.in-Filled.is) ∙ c.self.view_is))
