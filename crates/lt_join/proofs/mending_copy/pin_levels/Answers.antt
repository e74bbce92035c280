use Rattle.lt_join.proofs.MendCopies.{pinned_more}
use Rattle.lt_join.proofs.mending_copy.pin_levels.Goals as goal

pub loop-i-preserved : goal.loop-i-preserved
loop-i-preserved c = pinned_more c.args.key c.args.levels.now c.loop-i.i c.index-levels-i.result c.loop-i.copy c.push.new.self c.in_ok-pins.pins c.in_ok-ties.ties c.loop-i-test.true c.index-levels-i.is c.in_ok-pins.ensures c.in_ok-ties.ensures c.in_ok-push.ensures.ok c.loop-i.invariant
