use Rattle.std.proofs.Common.{None, sym, ap, subst}
use Rattle.lt_base.specs.Tables.{state_of}
use Rattle.lt_model.specs.Marks.{Marks, AreMarks}
use Rattle.lt_program.specs.declared.course.Course.{Course}
use Rattle.lt_program.specs.Tally.{IsLaidOn}
use Rattle.lt_program.proofs.CourseSteps.{evaluates_on, cost_on, grows_taken}
use Rattle.lt_program.proofs.course.Course.evaluate_laid.Goals as goal

pub evaluated-requires-clause-can_evaluate : goal.evaluated-requires-clause-can_evaluate
evaluated-requires-clause-can_evaluate g c = evaluates_on c.args.base.now c.args.self.now.marks c.in_ok-tables.tables c.in_ok-tables.ensures.laid c.args.stmt.now c.requires.can_evaluate

pub take_step-requires-clause-laid : goal.take_step-requires-clause-laid
take_step-requires-clause-laid g c = subst (λ (m : Marks). IsLaidOn c.args.base.now m c.in_ok-tables.tables) (sym (ap (λ (x : Course). x.marks) c.in_ok-tables.ensures.rest)) c.in_ok-tables.ensures.laid

pub take_step-requires-clause-ascending : goal.take_step-requires-clause-ascending
take_step-requires-clause-ascending g c = subst AreMarks (sym (ap (λ (x : Course). x.marks) c.in_ok-tables.ensures.rest)) c.in_ok-tables.ensures.ascending

pub returns-clause-ok : goal.returns-clause-ok
returns-clause-ok g c = grows_taken c.args.number c.args.stmt.now (state_of c.args.base.now) c.args.self.now c.take_laid.new.self c.take_step.new.self None c.in_ok-tables.ensures.rest c.in_ok-take_step.ensures.ok

pub returns-clause-cost : goal.returns-clause-cost
returns-clause-cost g c = cost_on c.args.base.now c.args.self.now.marks c.in_ok-tables.tables c.in_ok-tables.ensures.laid (g.J.Joiner.most c.args.by.now) c.args.stmt.now c.args.moves.now c.evaluated.new.moves c.evaluated.ensures.cost
