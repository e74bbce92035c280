use Rattle.std.proofs.Common.{◌≡◌, ℕ, List, sym, ap, ◌∙◌}
use Rattle.std.specs.Arc.{arc_value}
use Rattle.lt_model.specs.declared.syntax.Statement.{Statement}
use Rattle.lt_model.specs.Check.{code_of, normal}
use Rattle.lt_query.specs.Stated.{stated_plan}
use Rattle.lt_world.proofs.checks.Table.keep.Goals as goal

pub returns : goal.returns
returns c = λ schema good stmt all.
    let same : (arc_value c.in_ok-form.form).1 ≡ (arc_value c.args.form.now).1 = ap (λ (v : List ℕ × Statement). v.1) c.in_ok-form.ensures.cases in
    record {
      forms = c.put.ensures schema (record {
        good = ap (code_of schema) same ∙ good;
        stmt = stmt ∙ ap (normal schema) (sym same);
        route = c.requires.route;
        plan = c.in_ok-plan.ensures.value ∙ ap stated_plan c.body_of.ensures;
        wide = c.requires.widths;
      }) all.forms;
      runs = all.runs;
    }
