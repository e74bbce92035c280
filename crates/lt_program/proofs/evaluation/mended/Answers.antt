use Rattle.std.proofs.Common.{◌∙◌, ap, sym, subst}
use Rattle.lt_base.specs.Tables.{state_of}
use Rattle.lt_program.specs.Kept.{IsOrdered, effect_by}
use Rattle.lt_program.proofs.Followed.{planned_on}
use Rattle.lt_program.proofs.Recalls.{part_ordered, effect_recalled}
use Rattle.lt_program.proofs.evaluation.mended.Goals as goal

pub mend_slices-requires-clause-plan : goal.mend_slices-requires-clause-plan
mend_slices-requires-clause-plan g c = planned_on (state_of c.args.tables.now) c.args.stmt.now c.args.plan.now c.requires.can_evaluate.wide c.requires.can_evaluate.fits c.requires.plan

pub effect_by-requires : goal.effect_by-requires
effect_by-requires g c = subst IsOrdered (sym c.outcome.ensures) (part_ordered c.args.stmt.now (state_of c.args.tables.now) c.in_ok-part.part c.in_ok-part.ensures.part)

pub returns-clause-effect : goal.returns-clause-effect
returns-clause-effect g c = c.in_ok-effect.ensures ∙ ap (effect_by c.args.stmt.now) c.outcome.ensures ∙ effect_recalled c.args.stmt.now (state_of c.args.tables.now) c.in_ok-part.part c.in_ok-part.ensures.part
