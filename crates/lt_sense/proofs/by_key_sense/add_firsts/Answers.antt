use Rattle.std.proofs.Common.{◌<◌, length, arith}
use Rattle.lt_sense.proofs.ByKeyGains.{firsts_next}
use Rattle.lt_sense.proofs.by_key_sense.add_firsts.Goals as goal

pub loop-i-preserved : goal.loop-i-preserved
loop-i-preserved c =
    let lists = c.args.lists.now.items in
    let lt : c.loop-i.i < length lists = omega (arith, c.loop-i-test.true, c.len-i-end.ensures) in
    firsts_next lists c.loop-i.i c.index.result.now c.args.relation c.args.row.now c.args.keys.now.items c.loop-i.keys.items c.add_first.new.keys.items lt c.index.ensures c.loop-i.invariant c.in_ok-add_first.ensures
