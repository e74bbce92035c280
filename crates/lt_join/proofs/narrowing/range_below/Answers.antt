use Rattle.std.specs.Prelude.{length}
use Rattle.lt_join.proofs.Bounding.{range_here}
use Rattle.lt_join.proofs.narrowing.range_below.Goals as goal

pub returns-then-gives-clause-leaves : goal.returns-then-gives-clause-leaves
returns-then-gives-clause-leaves c = λ a agree hold.
    range_here c.args.levels.now c.len.result (length c.args.keys.now) c.index-levels-len.result a c.range.result c.requires.below c.len.ensures c.index-levels-len.is
    (c.range.ensures.leaves a (c.by_values.ensures a (c.given_above-all.ensures a agree hold)) hold)

pub returns-clause-leaves : goal.returns-clause-leaves
returns-clause-leaves c = λ a agree hold.
    range_here c.args.levels.now c.len.result (length c.args.keys.now) c.index-levels-len.result a c.range-2.result c.requires.below c.len.ensures c.index-levels-len.is
    (c.range-2.ensures.leaves a (c.by_keys.ensures a agree) hold)
