use Rattle.std.proofs.Common.{◌++◌, ◌∷◌, [], ℕ, List, refl, ap, ◌∙◌}
use Rattle.std.specs.Arc.{arc_value}
use Rattle.lt_model.specs.declared.normal.Stmt.{Stmt}
use Rattle.lt_model.specs.declared.syntax.Statement.{Statement}
use Rattle.lt_model.specs.Forms.{filled, filled_stmt}
use Rattle.lt_check.proofs.Wordings.{form_good}
use Rattle.lt_world.specs.Prepared.{form_of, IsChecked}
use Rattle.lt_world.proofs.making.Making.add_by_form.Goals as goal

abbrev second : List ℕ × Statement → Statement
second v = v.1

pub add_filled-requires-clause-widths : goal.add_filled-requires-clause-widths
add_filled-requires-clause-widths c = (c.in-Some.ensures.checked c.args.schema.now c.requires.table).wide

pub add_filled-requires-clause-route : goal.add_filled-requires-clause-route
add_filled-requires-clause-route c = (c.in-Some.ensures.checked c.args.schema.now c.requires.table).route

pub returns-in-Some-clause-code : goal.returns-in-Some-clause-code
returns-in-Some-clause-code c =
    let is : IsChecked c.args.schema.now c.in-Some.checked.now = c.in-Some.ensures.checked c.args.schema.now c.requires.table in
    let form = (arc_value c.args.form.now).1 in
    (form_good c.args.schema.now (form_of c.in-Some.checked.now) form (filled form c.args.cells.now) c.in-Some.checked.now.stmt (filled_stmt c.in-Some.checked.now.stmt c.args.cells.now) c.args.cells.now c.args.cells.now
    c.forms.ensures.code c.forms.ensures.normal (c.in-Some.ensures.form ∙ ap second c.deref.ensures) refl refl (is.good, is.stmt) refl).0

pub returns-in-Some-clause-more : goal.returns-in-Some-clause-more
returns-in-Some-clause-more c =
    let is : IsChecked c.args.schema.now c.in-Some.checked.now = c.in-Some.ensures.checked c.args.schema.now c.requires.table in
    let form = (arc_value c.args.form.now).1 in
    c.in_ok-add_filled.ensures.more
    ∙ ap (λ (s : Stmt). c.args.self.now.prog ++ s ∷ [])
    (form_good c.args.schema.now (form_of c.in-Some.checked.now) form (filled form c.args.cells.now) c.in-Some.checked.now.stmt (filled_stmt c.in-Some.checked.now.stmt c.args.cells.now) c.args.cells.now c.args.cells.now
    c.forms.ensures.code c.forms.ensures.normal (c.in-Some.ensures.form ∙ ap second c.deref.ensures) refl refl (is.good, is.stmt) refl).1
