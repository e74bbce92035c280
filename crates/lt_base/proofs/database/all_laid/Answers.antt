use Rattle.std.specs.Arc.{arc_value}
use Rattle.lt_base.proofs.States.{fits_here, laid_more}
use Rattle.lt_base.proofs.database.all_laid.Goals as goal

pub relation_laid-requires : goal.relation_laid-requires
relation_laid-requires c =
    fits_here arc_value c.args.relations.now.items c.loop-number.number c.relation-item.result c.args.marks.now
    (rw c.deref-relation-items.ensures.value at c.loop-number-test.true) (rw c.deref-relation-items.ensures.value at c.relation-item.is) c.requires

pub loop-number-preserved : goal.loop-number-preserved
loop-number-preserved c =
    rw c.in_ok-push.ensures.items (laid_more arc_value c.loop-number.laid.items c.args.relations.now.items c.loop-number.number c.in_ok-relation.relation c.relation-item.result c.args.marks.now
    (rw c.deref-relation-items.ensures.value at c.loop-number-test.true) (rw c.deref-relation-items.ensures.value at c.relation-item.is) c.in_ok-relation.ensures c.loop-number.invariant)
