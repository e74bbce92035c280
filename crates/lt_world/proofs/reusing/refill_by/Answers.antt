use Rattle.std.proofs.Common.{◌≡◌, List, ℕ, None, refl, sym, ap, ◌∙◌}
use Rattle.std.specs.Prelude.{set}
use Rattle.std.specs.Arc.{arc_value}
use Rattle.lt_model.specs.declared.normal.Stmt.{Stmt}
use Rattle.lt_model.specs.declared.syntax.Statement.{Statement}
use Rattle.lt_model.specs.Check.{code_of, normal}
use Rattle.lt_model.specs.Forms.{filled, filled_stmt}
use Rattle.lt_model.specs.Kept.{statement_of}
use Rattle.lt_check.proofs.Wordings.{form_good}
use Rattle.lt_world.specs.Prepared.{form_of, IsChecked}
use Rattle.lt_world.proofs.OfForms.{same_route}
use Rattle.lt_world.proofs.reusing.refill_by.Goals as goal

pub refill_at-requires-clause-route : goal.refill_at-requires-clause-route
refill_at-requires-clause-route c =
    let is : IsChecked c.args.schema.now c.in-Some.checked.now = c.in-Some.ensures.checked c.args.schema.now c.requires.table in
    let statement : List ℕ × Statement → Statement = λ v. v.1 in
    let same : form_of c.in-Some.checked.now ≡ (arc_value c.in-Filled-Filled.of_old).1 =
    c.in-Some.ensures.form
    ∙ (ap statement c.deref.ensures
    ∙ (sym (ap statement c.deref-2.ensures) ∙ (sym (c.is_same.ensures c.if-not-is_same.false) ∙ ap statement c.deref-3.ensures))) in
    let whole : filled (arc_value c.in-Filled-Filled.of_old).1 c.in-Filled-Filled.field-1-1.items ≡ c.args.old.now = sym (ap statement_of c.in-Filled-Filled.is-1) ∙ c.kept-2.ensures in
    same_route c.args.schema.now (form_of c.in-Some.checked.now) (arc_value c.in-Filled-Filled.of_old).1 c.args.old.now c.in-Filled-Filled.field-1-1.items c.in-Some.checked.now.stmt
    c.forms.ensures.normal c.plans_of_forms.ensures.route same whole is.stmt c.args.planned.now c.args.place c.requires.stmt

pub refill_at-requires-clause-plan : goal.refill_at-requires-clause-plan
refill_at-requires-clause-plan c = (c.in-Some.ensures.checked c.args.schema.now c.requires.table).plan

pub refill_at-requires-clause-widths : goal.refill_at-requires-clause-widths
refill_at-requires-clause-widths c = (c.in-Some.ensures.checked c.args.schema.now c.requires.table).wide

good : (c : goal.After-refill_at) → (code_of c.args.schema.now c.args.new.now ≡ None) × (filled_stmt c.in-Some.checked.now.stmt c.as_slice.result.now ≡ normal c.args.schema.now c.args.new.now)
good c =
    let is : IsChecked c.args.schema.now c.in-Some.checked.now = c.in-Some.ensures.checked c.args.schema.now c.requires.table in
    let statement : List ℕ × Statement → Statement = λ v. v.1 in
    form_good c.args.schema.now (form_of c.in-Some.checked.now) (arc_value c.in-Filled-Filled.form).1 c.args.new.now c.in-Some.checked.now.stmt
    (filled_stmt c.in-Some.checked.now.stmt c.as_slice.result.now) c.in-Filled-Filled.cells.items c.as_slice.result.now c.forms.ensures.code c.forms.ensures.normal
    (c.in-Some.ensures.form ∙ ap statement c.deref.ensures) c.as_slice.ensures (sym (ap statement_of c.in-Filled-Filled.is-0) ∙ c.kept.ensures) (is.good, is.stmt) refl

pub returns-clause-code : goal.returns-clause-code
returns-clause-code c = λ done. (good c).0

pub returns-clause-filled : goal.returns-clause-filled
returns-clause-filled c = λ done. c.refill_at.ensures done ∙ ap (λ (s : Stmt). set c.args.planned.now c.args.place s) (good c).1
