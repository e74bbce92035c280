use Rattle.std.proofs.Common.{subst}
use Rattle.std.proofs.lemmas.List.{take_all}
use Rattle.lt_program.proofs.InUse.{HasGuides, guide_more}
use Rattle.lt_program.proofs.indexing.are_in_use.Goals as goal

pub loop-guide-preserved : goal.loop-guide-preserved
loop-guide-preserved c = guide_more c.args.base.now c.args.guides.now c.loop-guide.guide-index c.guide-item.result c.loop-guide-test.true c.guide-item.is (c.is_in_use.ensures c.if-not-is_in_use.false) c.loop-guide.invariant

pub returns : goal.returns
returns c = λ is. subst (HasGuides c.args.base.now) (take_all c.loop-guide.guide-index c.args.guides.now c.loop-guide-test.false) c.loop-guide.invariant
