use Rattle.lt_base.specs.Indexed.{IsIndexed}
use Rattle.lt_base.proofs.Used.{noted, each_set, each_left}
use Rattle.lt_base.proofs.relation.age_all.Goals as goal

pub loop-at-preserved-then-index-ge-IDLE : goal.loop-at-preserved-then-index-ge-IDLE
loop-at-preserved-then-index-ge-IDLE c = λ width rows all. rw c.remove.ensures.items (each_left (IsIndexed width rows) c.loop-at.others.items c.loop-at.at (c.loop-at.invariant width rows all))

pub loop-at-preserved : goal.loop-at-preserved
loop-at-preserved c = λ width rows all.
    each_set (IsIndexed width rows) c.loop-at.others.items c.loop-at.at c.index_mut.result.now _ c.index_mut.ensures.value (noted width rows c.index_mut.result.now _) (c.loop-at.invariant width rows all)
