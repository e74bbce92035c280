use Rattle.std.proofs.Common.{◌∙◌, sym}
use Rattle.lt_join.specs.Values.{values_in}
use Rattle.lt_join.proofs.KnownValues.{given_first, nothing_there}
use Rattle.lt_join.proofs.conditions.give_value.Goals as goal

pub returns-then-is_none : goal.returns-then-is_none
returns-then-is_none c = c.set.ensures ∙ given_first (values_in c.args.values.now.cells) c.args.v c.args.cell (sym c.get.ensures ∙ nothing_there c.get.result c.if-is_none.ensures)
