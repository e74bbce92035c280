use Rattle.std.proofs.Common.{◌∙◌}
use Rattle.lt_base.specs.Tables.{state_of}
use Rattle.lt_program.specs.Effect.{view}
use Rattle.lt_program.proofs.CourseSteps.{grows_alone, cost_alone}
use Rattle.lt_program.proofs.course.Course.evaluate_alone.Goals as goal

pub returns-clause-ok : goal.returns-clause-ok
returns-clause-ok g c =
    grows_alone (state_of c.args.base.now) c.args.number c.args.stmt.now c.in_ok-step.step.part c.in_ok-part.part (view c.in_ok-step.step.effect) c.args.self.now c.accept.new.self
    c.requires.reads c.in_ok-step.ensures.part c.in_ok-step.ensures.effect (c.in_ok-part.ensures ∙ c.insensitive.ensures) c.in_ok-accept.ensures.parts c.in_ok-accept.ensures.reply c.in_ok-accept.ensures.marks

pub returns-clause-cost : goal.returns-clause-cost
returns-clause-cost g c = cost_alone (state_of c.args.base.now) c.args.self.now.marks c.args.stmt.now c.args.moves.now c.evaluated.new.moves c.requires.reads c.evaluated.ensures.cost

pub returns-clause-laid : goal.returns-clause-laid
returns-clause-laid g c = c.in_ok-accept.ensures.laid c.args.base.now c.requires.laid

pub returns-in_err-part-clause-cost : goal.returns-in_err-part-clause-cost
returns-in_err-part-clause-cost g c = cost_alone (state_of c.args.base.now) c.args.self.now.marks c.args.stmt.now c.args.moves.now c.evaluated.new.moves c.requires.reads c.evaluated.ensures.cost
