use Rattle.std.proofs.Common.{◌∙◌}
use Rattle.lt_model.specs.Check.{term}
use Rattle.lt_check.proofs.Looks.{Takes_term, listed_more}
use Rattle.lt_check.proofs.notes.Notes.terms.Goals as goal

pub loop-term-preserved : goal.loop-term-preserved
loop-term-preserved c = (
  Takes_term c.args.terms.now c.loop-term.term-index c.term-item.result c.args.self.now c.loop-term.self c.term.new.self c.loop-term-test.true c.term-item.is c.loop-term.invariant.0 c.in_ok-taken.ensures.takes,
  λ whole w. c.in_ok-push.ensures.ok ∙ listed_more term c.args.terms.now c.loop-term.term-index c.term-item.result c.loop-term.list c.in_ok-taken.taken c.loop-term.self c.term.new.self _ c.loop-term-test.true c.term-item.is c.in_ok-taken.ensures.takes c.loop-term.invariant.1 c.in_ok-taken.ensures.term whole w,
)
