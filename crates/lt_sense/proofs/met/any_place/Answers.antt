use Rattle.std.proofs.Common.{◌<◌, length, subst, arith}
use Rattle.lt_sense.specs.Gathered.{IsOfAllColumns}
use Rattle.lt_sense.proofs.Lies.{get_there}
use Rattle.lt_sense.proofs.met.any_place.Goals as goal

pub returns-then-has_all : goal.returns-then-has_all
returns-then-has_all c =
    let lists = c.args.lists.now.items in
    let lt : c.loop-at.at < length lists = omega (arith, c.loop-at-test.true, c.len-at-end.ensures) in (
      c.index.result.now,
      get_there lists c.loop-at.at c.index.result.now lt c.index.ensures,
      subst (λ n. IsOfAllColumns c.args.relation n c.index.result.now) c.width.ensures.value (c.has_all.ensures c.if-has_all.true),
    )
