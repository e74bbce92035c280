use Rattle.std.proofs.Common.{ap, ◌∙◌, length}
use Rattle.lt_join.specs.Values.{values_in}
use Rattle.lt_reference.proofs.RowTerms.{matched_uneven}
use Rattle.lt_reference.proofs.matching.matched.Goals as goal

pub returns-then-cells-terms : goal.returns-then-cells-terms
returns-then-cells-terms c = matched_uneven (values_in c.args.values.now.cells) c.args.terms.now c.args.row.now (λ e. c.if-cells-terms.true (ap length c.cells-cells.ensures.cells ∙ e))
