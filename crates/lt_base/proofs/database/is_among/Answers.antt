use Rattle.std.proofs.Common.{◌≢◌}
use Rattle.lt_model.specs.declared.mark.Mark.{Mark}
use Rattle.lt_base.proofs.Grown.{each_more}
use Rattle.lt_base.proofs.database.is_among.Goals as goal

pub loop-i-preserved : goal.loop-i-preserved
loop-i-preserved c = each_more (λ (m : Mark). m.relation ≢ c.args.relation) c.args.marks.now c.loop-i.i c.mark-mark.result.now c.mark-mark.ensures c.loop-i.invariant c.if-mark-relation.false
