use Rattle.lt_join.specs.Values.{values_in}
use Rattle.lt_reference.specs.Walk.{bare}
use Rattle.lt_reference.proofs.Loops.{leaf_met, leaf_missed}
use Rattle.lt_reference.proofs.answers.answer.Goals as goal

pub returns-then-bears : goal.returns-then-bears
returns-then-bears c =
    leaf_met c.args.terms.now (values_in c.args.values.now.cells) (values_in c.give_all-values.result.cells) c.args.tests.now c.args.absents.now (bare c.args.relations.now) c.bears.result c.give_all-values.ensures c.bears.ensures c.row.result c.if-bears.true
    c.row.ensures

pub returns-else-bears : goal.returns-else-bears
returns-else-bears c =
    leaf_missed c.args.terms.now (values_in c.args.values.now.cells) (values_in c.give_all-values.result.cells) c.args.tests.now c.args.absents.now (bare c.args.relations.now) c.bears.result c.give_all-values.ensures c.bears.ensures c.if-bears.false
