use Rattle.std.proofs.Common.{[], ◌∷◌, ◌++◌, sym, ap, ◌∙◌, subst}
use Rattle.lt_model.specs.Marks.{laid}
use Rattle.lt_base.specs.Tables.{state_of}
use Rattle.lt_program.specs.Part.{Part}
use Rattle.lt_program.specs.Effect.{view}
use Rattle.lt_program.specs.Kept.{IsOrdered, effect_by}
use Rattle.lt_program.proofs.Recalls.{part_ordered, grows_kept}
use Rattle.lt_program.proofs.course.Course.keep.Goals as goal

pub effect_by-requires : goal.effect_by-requires
effect_by-requires c =
    subst IsOrdered (sym (c.outcome.ensures ∙ ap (λ (p : Part). p.outcome) c.part.ensures)) (part_ordered c.args.stmt.now (laid (state_of c.args._base.now) c.args.self.now.marks) c.args.part.now c.requires.part)

pub returns-clause-ok : goal.returns-clause-ok
returns-clause-ok c =
    grows_kept (state_of c.args._base.now) c.args.number c.args.stmt.now c.args.part.now (view c.in_ok-effect.effect) c.args.self.now c.accept.new.self
    c.requires.part (c.in_ok-effect.ensures ∙ ap (effect_by c.args.stmt.now) c.outcome.ensures ∙ ap (λ (p : Part). effect_by c.args.stmt.now p.outcome) c.part.ensures)
    (c.in_ok-accept.ensures.parts ∙ ap (λ (p : Part). c.args.self.now.parts ++ p ∷ []) c.in_ok-part.ensures) c.in_ok-accept.ensures.reply c.in_ok-accept.ensures.marks

pub returns-clause-laid : goal.returns-clause-laid
returns-clause-laid c = c.in_ok-accept.ensures.laid c.args._base.now c.requires.laid
