use Rattle.std.proofs.Common.{arith}
use Rattle.std.proofs.lemmas.Grind.{common_steps}
use Rattle.lt_model.specs.declared.normal.Term.TheVariants.{Var}
use Rattle.lt_model.specs.declared.syntax.Op.TheVariants.{Eq}
use Rattle.lt_model.specs.declared.normal.Test.TheVariants.{Cmp}
use Rattle.lt_query.proofs.LevelSteps.{constants_more}
use Rattle.lt_query.proofs.levels.constants.Goals as goal

pub loop-test-preserved : goal.loop-test-preserved
loop-test-preserved c =
    let more = constants_more c.args.tests.now c.args.v c.loop-test.test-index (Cmp (Var 0) Eq (Var 0)) (omega arith) in
    grind (arith, common_steps, more)
