use Rattle.std.proofs.Common.{sym, ap, subst, ◌∙◌}
use Rattle.lt_model.specs.Marks.{Marks}
use Rattle.lt_program.specs.declared.course.Course.{Course}
use Rattle.lt_program.specs.Tally.{IsLaid}
use Rattle.lt_program.proofs.course.Course.write.Goals as goal

pub returns-in-Ok-clause-laid : goal.returns-in-Ok-clause-laid
returns-in-Ok-clause-laid c = λ base is.
    subst (λ (m : Marks). IsLaid base m c.follow.new.self.laid) (sym (ap (λ (x : Course). x.marks) c.follow.ensures.rest ∙ c.in-Ok.ensures.ok)) (c.follow.ensures.laid base c.args.self.now.marks is)

pub returns-in-Err-clause-laid : goal.returns-in-Err-clause-laid
returns-in-Err-clause-laid c = λ base is. subst (λ (m : Marks). IsLaid base m c.args.self.now.laid) (sym c.in-Err.ensures.err) is
