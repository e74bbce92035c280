use Rattle.std.specs.Arc.{arc_value}
use Rattle.lt_base.proofs.Tabled.{tables_more, table_seen}
use Rattle.lt_base.proofs.database.look_over.Goals as goal

pub loop-relation-preserved : goal.loop-relation-preserved
loop-relation-preserved c =
    tables_more arc_value c.args.relations.now.items c.loop-relation.relation-index c.relation-item.result
    (rw c.deref-relation-items.ensures.value at c.loop-relation-test.true) (rw c.deref-relation-items.ensures.value at c.relation-item.is)
    (table_seen (arc_value c.relation-item.result) c.deref.result.now c.rows.result.now c.width-width.result c.deref.ensures c.rows.ensures.width c.rows.ensures.rows c.rows.ensures.some c.width-width.ensures.value c.width-width.ensures.bound c.width-width.ensures.is_set)
    c.loop-relation.invariant
