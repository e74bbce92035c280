use Rattle.std.proofs.Common.{arith}
use Rattle.lt_model.specs.Variables.{literal_terms}
use Rattle.lt_check.proofs.Fronts.{IsWhole_before}
use Rattle.lt_check.proofs.Bodies.{Takes_literal, Takes_literals, Adds_literal}
use Rattle.lt_check.proofs.taken.add_literals.Goals as goal

pub loop-literal-preserved : goal.loop-literal-preserved
loop-literal-preserved c = (
  Takes_literal c.args.schema.now c.args.literals.now c.loop-literal.literal-index c.literal-item.result c.args.notes.now c.loop-literal.notes c.add_literal.new.notes c.loop-literal-test.true c.literal-item.is c.loop-literal.invariant.0 c.in_ok-add_literal.ensures.takes,
  λ whole w.
      let before = IsWhole_before c.loop-literal.notes.names c.add_literal.new.notes.names whole (literal_terms c.literal-item.result) c.in_ok-add_literal.ensures.takes.names w in
      Adds_literal c.args.schema.now whole c.args.literals.now c.loop-literal.literal-index c.literal-item.result c.args.body.now c.loop-literal.body c.add_literal.new.body c.loop-literal-test.true c.literal-item.is (c.loop-literal.invariant.1 whole before) (c.in_ok-add_literal.ensures.adds whole w),
)

pub returns-clause-takes : goal.returns-clause-takes
returns-clause-takes c = Takes_literals c.args.schema.now c.args.literals.now c.loop-literal.literal-index c.args.notes.now c.loop-literal.notes (omega (arith, c.loop-literal-test.false)) c.loop-literal.invariant.0
