use Rattle.std.proofs.Common.{◌≡◌, ◌++◌, ◌∷◌, [], None, sym, ap, subst, ◌∙◌}
use Rattle.std.specs.Prelude.{OnOk, IfErr}
use Rattle.std.specs.Arc.{arc_value}
use Rattle.lt_model.specs.declared.syntax.Statement.{Statement}
use Rattle.lt_model.specs.Check.{code_of, normal}
use Rattle.lt_model.specs.Forms.{filled}
use Rattle.lt_model.specs.Kept.{statement_of}
use Rattle.lt_check.specs.declared.check.CheckFault.{CheckFault}
use Rattle.lt_check.specs.Outcome.{IsCode}
use Rattle.lt_world.proofs.making.Making.take.Goals as goal

pub returns-in-Whole-clause-code : goal.returns-in-Whole-clause-code
returns-in-Whole-clause-code c = subst (λ (s : Statement). OnOk c.add_whole.result (code_of c.args.schema.now s ≡ None)) (sym (ap statement_of c.in-Whole.is) ∙ c.kept.ensures) c.add_whole.ensures.code

pub returns-in-Whole-clause-more : goal.returns-in-Whole-clause-more
returns-in-Whole-clause-more c = subst (λ (s : Statement). OnOk c.add_whole.result (c.add_whole.new.self.prog ≡ c.args.self.now.prog ++ normal c.args.schema.now s ∷ [])) (sym (ap statement_of c.in-Whole.is) ∙ c.kept.ensures) c.add_whole.ensures.more

pub returns-in-Whole-clause-bad : goal.returns-in-Whole-clause-bad
returns-in-Whole-clause-bad c = subst (λ (s : Statement). IfErr c.add_whole.result (λ (fault : CheckFault). IsCode (code_of c.args.schema.now s) c.args.number fault)) (sym (ap statement_of c.in-Whole.is) ∙ c.kept.ensures) c.add_whole.ensures.bad

pub returns-in-Filled-clause-code : goal.returns-in-Filled-clause-code
returns-in-Filled-clause-code c = subst (λ (s : Statement). OnOk c.add_by_form.result (code_of c.args.schema.now s ≡ None)) (ap (filled (arc_value c.in-Filled.form).1) c.as_slice.ensures ∙ (sym (ap statement_of c.in-Filled.is) ∙ c.kept.ensures)) c.add_by_form.ensures.code

pub returns-in-Filled-clause-more : goal.returns-in-Filled-clause-more
returns-in-Filled-clause-more c = subst (λ (s : Statement). OnOk c.add_by_form.result (c.add_by_form.new.self.prog ≡ c.args.self.now.prog ++ normal c.args.schema.now s ∷ [])) (ap (filled (arc_value c.in-Filled.form).1) c.as_slice.ensures ∙ (sym (ap statement_of c.in-Filled.is) ∙ c.kept.ensures)) c.add_by_form.ensures.more

pub returns-in-Filled-clause-bad : goal.returns-in-Filled-clause-bad
returns-in-Filled-clause-bad c = subst (λ (s : Statement). IfErr c.add_by_form.result (λ (fault : CheckFault). IsCode (code_of c.args.schema.now s) c.args.number fault)) (ap (filled (arc_value c.in-Filled.form).1) c.as_slice.ensures ∙ (sym (ap statement_of c.in-Filled.is) ∙ c.kept.ensures)) c.add_by_form.ensures.bad
