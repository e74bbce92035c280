use Rattle.std.proofs.Common.{◌∙◌, arith}
use Rattle.lt_model.specs.Check.{term}
use Rattle.lt_check.proofs.Looks.{Takes_argument, Takes_row, listed_more}
use Rattle.lt_check.proofs.notes.Notes.fitting.Goals as goal

pub loop-i-preserved : goal.loop-i-preserved
loop-i-preserved c = (
  Takes_argument c.args.terms.now c.args.columns.now c.loop-i.i c.index-terms-i.result c.args.self.now c.loop-i.self c.kinded.new.self c.loop-i-test.true c.requires c.index-terms-i.is c.loop-i.invariant.0 c.in_ok-taken.ensures.takes,
  λ whole w. c.in_ok-push.ensures.ok ∙ listed_more term c.args.terms.now c.loop-i.i c.index-terms-i.result c.loop-i.list c.in_ok-taken.taken c.loop-i.self c.kinded.new.self _ c.loop-i-test.true c.index-terms-i.is c.in_ok-taken.ensures.takes c.loop-i.invariant.1 c.in_ok-taken.ensures.term whole w,
)

pub returns-clause-takes : goal.returns-clause-takes
returns-clause-takes c = Takes_row c.args.terms.now c.args.columns.now c.loop-i.i c.args.self.now c.loop-i.self (omega (arith, c.loop-i-test.false)) c.requires c.loop-i.invariant.0
