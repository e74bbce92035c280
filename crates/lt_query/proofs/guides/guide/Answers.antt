use Rattle.std.proofs.Common.{arith, length}
use Rattle.std.proofs.lemmas.Grind.{common_steps}
use Rattle.lt_query.proofs.LevelSteps.{length-column_levels}
use Rattle.lt_query.proofs.guides.guide.Goals as goal

pub sorted_columns-requires : goal.sorted_columns-requires
sorted_columns-requires c =
    let long = length-column_levels c.args.places.now c.args.order.now c.args.from (length c.args.atom.now.terms) in
    grind (arith, common_steps, long)
