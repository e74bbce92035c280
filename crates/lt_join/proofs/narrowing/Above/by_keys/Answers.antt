use Rattle.lt_join.specs.Values.{values_in}
use Rattle.lt_join.proofs.Bounding.{above_agrees}
use Rattle.lt_join.proofs.narrowing.Above.by_keys.Goals as goal

pub returns : goal.returns
returns c = λ a agree. above_agrees c.args.levels.now c.args.keys.now (values_in c.args.values.now.cells) a c.len.result c.requires.known agree c.len.ensures
