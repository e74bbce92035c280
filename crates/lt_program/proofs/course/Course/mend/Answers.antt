use Rattle.std.proofs.Common.{[], ◌∷◌, ◌++◌, None, sym, ap, ◌∙◌, subst}
use Rattle.lt_base.specs.Tables.{state_of}
use Rattle.lt_model.specs.Marks.{Marks, AreMarks}
use Rattle.lt_program.specs.declared.course.Course.{Course}
use Rattle.lt_program.specs.Tally.{IsLaidOn}
use Rattle.lt_program.proofs.CourseSteps.{evaluates_on, old_on, mending_on_laid, grows_taken}
use Rattle.lt_program.proofs.course.Course.mend.Goals as goal

pub mended-requires-clause-can_evaluate : goal.mended-requires-clause-can_evaluate
mended-requires-clause-can_evaluate g c = evaluates_on c.args.base.now c.args.self.now.marks c.in_ok-tables.tables c.in_ok-tables.ensures.laid c.args.stmt.now c.requires.can_evaluate

pub take_step-requires-clause-laid : goal.take_step-requires-clause-laid
take_step-requires-clause-laid g c = subst (λ (m : Marks). IsLaidOn c.args.base.now m c.in_ok-tables.tables) (sym (ap (λ (x : Course). x.marks) c.in_ok-tables.ensures.rest)) c.in_ok-tables.ensures.laid

pub take_step-requires-clause-ascending : goal.take_step-requires-clause-ascending
take_step-requires-clause-ascending g c = subst AreMarks (sym (ap (λ (x : Course). x.marks) c.in_ok-tables.ensures.rest)) c.in_ok-tables.ensures.ascending

pub returns-clause-ok : goal.returns-clause-ok
returns-clause-ok g c = grows_taken c.args.number c.args.stmt.now (state_of c.args.base.now) c.args.self.now c.take_laid.new.self c.take_step.new.self None c.in_ok-tables.ensures.rest c.in_ok-take_step.ensures.ok

pub mended-requires-clause-old : goal.mended-requires-clause-old
mended-requires-clause-old g c = old_on c.args.base.now c.args.self.now.marks c.in_ok-tables.tables c.in_ok-tables.ensures.laid c.args.stmt.now c.args.old.now c.args.keys.now c.requires.old

pub returns-clause-mended : goal.returns-clause-mended
returns-clause-mended g c = (c.in_ok-step.step.part, c.in_ok-take_step.ensures.parts ∙ ap (λ (x : Course). x.parts ++ c.in_ok-step.step.part ∷ []) c.in_ok-tables.ensures.rest, c.in_ok-step.ensures.mended)

pub returns-clause-cost : goal.returns-clause-cost
returns-clause-cost g c = mending_on_laid c.args.base.now c.args.self.now.marks c.in_ok-tables.tables c.in_ok-tables.ensures.laid c.args.stmt.now c.args.keys.now c.args.moves.now c.mended.new.moves c.mended.ensures.cost
