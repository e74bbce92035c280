use Rattle.std.proofs.Common.{[], ◌∷◌, ◌++◌, Some, None, refl, ap, ◌∙◌}
use Rattle.lt_base.specs.Tables.{state_of}
use Rattle.lt_program.specs.Part.{Part}
use Rattle.lt_program.specs.Effect.{view}
use Rattle.lt_program.proofs.CourseSteps.{grows_on, grows_taken}
use Rattle.lt_program.proofs.LaterMarks.{laid_begun}
use Rattle.lt_program.proofs.course.Course.take_step.Goals as goal

pub returns-clause-ok : goal.returns-clause-ok
returns-clause-ok c =
    let old = c.args.self.now in
    let kept = Some (record { tables = c.args.tables; later = None }) in
    let mid = record old { laid = kept } in
    grows_taken c.args.number c.args._stmt.now (state_of c.args._base.now) old mid c.accept.new.self kept refl
    (grows_on c.args._base.now old.marks c.args.tables c.requires.laid c.args.number c.args._stmt.now c.args.step.part (view c.args.step.effect) mid c.accept.new.self
    refl c.requires.part c.requires.effect (c.in_ok-accept.ensures.parts ∙ ap (λ (p : Part). old.parts ++ p ∷ []) c.in_ok-part.ensures) c.in_ok-accept.ensures.reply c.in_ok-accept.ensures.marks)

pub returns-clause-parts : goal.returns-clause-parts
returns-clause-parts c = c.in_ok-accept.ensures.parts ∙ ap (λ (p : Part). c.args.self.now.parts ++ p ∷ []) c.in_ok-part.ensures

pub returns-clause-laid : goal.returns-clause-laid
returns-clause-laid c = c.in_ok-accept.ensures.laid c.args._base.now (laid_begun c.args._base.now c.args.tables c.args.self.now.marks c.requires.ascending c.requires.laid)

pub returns-in_err-accept-clause-laid : goal.returns-in_err-accept-clause-laid
returns-in_err-accept-clause-laid c = c.in_err-accept.ensures.laid c.args._base.now (laid_begun c.args._base.now c.args.tables c.args.self.now.marks c.requires.ascending c.requires.laid)

pub returns-in_err-part-clause-laid : goal.returns-in_err-part-clause-laid
returns-in_err-part-clause-laid c = laid_begun c.args._base.now c.args.tables c.args.self.now.marks c.requires.ascending c.requires.laid
