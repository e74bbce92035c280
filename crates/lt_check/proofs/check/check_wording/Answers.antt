use Rattle.std.proofs.Common.{◌≡◌, ℕ, List, Option, None, sym, ap, subst, ◌∙◌}
use Rattle.std.specs.Prelude.{IfOk, IfErr}
use Rattle.std.specs.Arc.{arc_value}
use Rattle.std.proofs.lemmas.Result.{IfOk-at_ok, err_from_is_err_and}
use Rattle.lt_model.specs.declared.normal.Stmt.{Stmt}
use Rattle.lt_model.specs.declared.syntax.Statement.{Statement}
use Rattle.lt_model.specs.Check.{code_of, normal}
use Rattle.lt_model.specs.Kept.{statement_of}
use Rattle.lt_check.specs.declared.check.CheckFault.{CheckFault}
use Rattle.lt_check.specs.Outcome.{IsCode}
use Rattle.lt_check.proofs.Wordings.{form_code, form_good}
use Rattle.lt_check.proofs.check.check_wording.Goals as goal

pub returns-in-Whole-clause-good : goal.returns-in-Whole-clause-good
returns-in-Whole-clause-good c =
    subst (λ (s : Statement). IfOk c.check_statement.result (λ (stmt : Stmt). (code_of c.args.schema.now s ≡ None) × (stmt ≡ normal c.args.schema.now s))) (sym (ap statement_of c.in-Whole.is) ∙ c.kept.ensures) c.check_statement.ensures.good

pub returns-in-Whole-clause-bad : goal.returns-in-Whole-clause-bad
returns-in-Whole-clause-bad c =
    subst (λ (s : Statement). IfErr c.check_statement.result (λ (fault : CheckFault). IsCode (code_of c.args.schema.now s) c.args.number fault)) (sym (ap statement_of c.in-Whole.is) ∙ c.kept.ensures) c.check_statement.ensures.bad

pub returns-in_err-numbered-in-Filled-clause-bad : goal.returns-in_err-numbered-in-Filled-clause-bad
returns-in_err-numbered-in-Filled-clause-bad c =
    let form = arc_value c.in-Filled.form in
    let codes = form_code c.args.schema.now c.statement.result.now form.1 c.args.wording.now c.in-Filled.cells.items c.forms.ensures.code
    (c.statement.ensures.same ∙ ap (λ (v : List ℕ × Statement). v.1) c.deref.ensures) (sym (ap statement_of c.in-Filled.is) ∙ c.kept.ensures) in
    let p = err_from_is_err_and c.from_residual.result c.from_residual.ensures.1 in
    rw (p.1, p.2) (subst (λ (code : Option ℕ). IsCode code c.args.number c.in_err-numbered-in-Filled.field-0.0) codes c.in_err-numbered-in-Filled.ensures.bad)

pub returns-in_ok-stmt-in-Filled-clause-good : goal.returns-in_ok-stmt-in-Filled-clause-good
returns-in_ok-stmt-in-Filled-clause-good c =
    let form = arc_value c.in-Filled.form in
    let filled = IfOk-at_ok _ c.in_ok-stmt-in-Filled.was c.filled-stmt.ensures in
    form_good c.args.schema.now c.statement.result.now form.1 c.args.wording.now c.in_ok-numbered-in-Filled.numbered c.in_ok-stmt-in-Filled.stmt c.in-Filled.cells.items c.as_slice.result.now c.forms.ensures.code c.forms.ensures.normal
    (c.statement.ensures.same ∙ ap (λ (v : List ℕ × Statement). v.1) c.deref.ensures) c.as_slice.ensures (sym (ap statement_of c.in-Filled.is) ∙ c.kept.ensures) c.in_ok-numbered-in-Filled.ensures.good filled
