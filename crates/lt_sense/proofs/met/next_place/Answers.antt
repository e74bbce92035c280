use Rattle.std.proofs.Common.{◌<◌, length, arith}
use Rattle.lt_sense.proofs.Lies.{get_there}
use Rattle.lt_sense.proofs.met.next_place.Goals as goal

pub returns-then-goes_on : goal.returns-then-goes_on
returns-then-goes_on c =
    let lists = c.args.lists.now.items in
    let lt : c.loop-at.at < length lists = omega (arith, c.loop-at-test.true, c.len-at-end.ensures) in
    (c.index.result.now, get_there lists c.loop-at.at c.index.result.now lt c.index.ensures, c.goes_on.ensures c.if-goes_on.true)
