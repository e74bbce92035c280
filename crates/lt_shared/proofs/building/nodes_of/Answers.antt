use Rattle.std.proofs.Common.{◌∙◌}
use Rattle.lt_shared.proofs.Gathered.{joined-rows}
use Rattle.lt_shared.proofs.building.nodes_of.Goals as goal

pub returns-clause-rows : goal.returns-clause-rows
returns-clause-rows c = c.in_ok-nodes.ensures.rows ∙ c.in_ok-pages.ensures.rows ∙ joined-rows c.args.rows.items
