use Rattle.std.proofs.Common.{arith}
use Rattle.lt_query.proofs.LevelParts.{level_more}
use Rattle.lt_query.proofs.holders.above_all.Goals as goal

pub loop-level-preserved : goal.loop-level-preserved
loop-level-preserved c =
    let next = c.in_ok-most.ensures in
    let before = c.loop-level.invariant.at_least in
    let more = next.at_least in
    record {
      at_least = omega arith;
      above = level_more c.args.levels.now c.loop-level.level-index 0 c.loop-level.most c.in_ok-most.most c.loop-level-test.true next.at_least next.above c.loop-level.invariant.above;
    }
