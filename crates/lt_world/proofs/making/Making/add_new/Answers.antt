use Rattle.std.proofs.Common.{◌++◌, ◌∷◌, [], ℕ, List, Option, refl, sym, ap, subst, ◌∙◌}
use Rattle.std.specs.Arc.{arc_value}
use Rattle.std.proofs.lemmas.Result.{err_from_is_err_and}
use Rattle.lt_model.specs.declared.normal.Body.{Body}
use Rattle.lt_model.specs.declared.normal.Stmt.{Stmt}
use Rattle.lt_model.specs.declared.syntax.Statement.{Statement}
use Rattle.lt_model.specs.Check.{code_of, normal}
use Rattle.lt_model.specs.Forms.{filled, filled_stmt}
use Rattle.lt_check.specs.Outcome.{IsCode}
use Rattle.lt_check.proofs.Wordings.{form_code, form_good}
use Rattle.lt_query.specs.Runnable.{HasWidths}
use Rattle.lt_world.proofs.GoodAll.{good_wide}
use Rattle.lt_world.proofs.making.Making.add_new.Goals as goal

abbrev second : List ℕ × Statement → Statement
second v = v.1

pub returns-in_err-stmt-clause-bad : goal.returns-in_err-stmt-clause-bad
returns-in_err-stmt-clause-bad c =
    let form = (arc_value c.args.form.now).1 in
    let codes = form_code c.args.schema.now c.statement.result.now form (filled form c.args.cells.now) c.args.cells.now c.forms.ensures.code (c.statement.ensures.same ∙ ap second c.deref.ensures) refl in
    let p = err_from_is_err_and c.from_residual.result c.from_residual.ensures.1 in
    rw (p.1, p.2) (subst (λ (code : Option ℕ). IsCode code c.args.number c.in_err-stmt.field-0.0) codes c.in_err-stmt.ensures.bad)

pub route_of-requires : goal.route_of-requires
route_of-requires c =
    record { widths = subst (λ (b : Body). HasWidths b) (sym c.body_of.ensures) (good_wide c.args.schema.now c.statement.result.now c.deref.result.now.1 c.in_ok-stmt.stmt c.statement.ensures.same c.statement.ensures.within c.in_ok-stmt.ensures.good.1) }

pub add_filled-requires-clause-widths : goal.add_filled-requires-clause-widths
add_filled-requires-clause-widths c = good_wide c.args.schema.now c.statement.result.now c.deref.result.now.1 c.in_ok-stmt.stmt c.statement.ensures.same c.statement.ensures.within c.in_ok-stmt.ensures.good.1

pub keep-requires-clause-widths : goal.keep-requires-clause-widths
keep-requires-clause-widths c = good_wide c.args.schema.now c.statement.result.now c.deref.result.now.1 c.in_ok-stmt.stmt c.statement.ensures.same c.statement.ensures.within c.in_ok-stmt.ensures.good.1

pub returns-in_err-keep-clause-table : goal.returns-in_err-keep-clause-table
returns-in_err-keep-clause-table c =
    let same = c.statement.ensures.same ∙ ap second c.deref.ensures in
    c.keep.ensures c.args.schema.now (ap (code_of c.args.schema.now) (sym same) ∙ c.in_ok-stmt.ensures.good.0) (c.in_ok-stmt.ensures.good.1 ∙ ap (normal c.args.schema.now) same) c.requires.table

pub returns-clause-table : goal.returns-clause-table
returns-clause-table c =
    let same = c.statement.ensures.same ∙ ap second c.deref.ensures in
    c.keep.ensures c.args.schema.now (ap (code_of c.args.schema.now) (sym same) ∙ c.in_ok-stmt.ensures.good.0) (c.in_ok-stmt.ensures.good.1 ∙ ap (normal c.args.schema.now) same) c.requires.table

pub returns-clause-code : goal.returns-clause-code
returns-clause-code c =
    let form = (arc_value c.args.form.now).1 in
    (form_good c.args.schema.now c.statement.result.now form (filled form c.args.cells.now) c.in_ok-stmt.stmt (filled_stmt c.in_ok-stmt.stmt c.args.cells.now) c.args.cells.now c.args.cells.now
    c.forms.ensures.code c.forms.ensures.normal (c.statement.ensures.same ∙ ap second c.deref.ensures) refl refl c.in_ok-stmt.ensures.good refl).0

pub returns-clause-more : goal.returns-clause-more
returns-clause-more c =
    let form = (arc_value c.args.form.now).1 in
    c.in_ok-add_filled.ensures.more
    ∙ ap (λ (s : Stmt). c.args.self.now.prog ++ s ∷ [])
    (form_good c.args.schema.now c.statement.result.now form (filled form c.args.cells.now) c.in_ok-stmt.stmt (filled_stmt c.in_ok-stmt.stmt c.args.cells.now) c.args.cells.now c.args.cells.now
    c.forms.ensures.code c.forms.ensures.normal (c.statement.ensures.same ∙ ap second c.deref.ensures) refl refl c.in_ok-stmt.ensures.good refl).1
