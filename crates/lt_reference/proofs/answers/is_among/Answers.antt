use Rattle.std.proofs.Common.{◌∙◌, sym}
use Rattle.lt_reference.proofs.Loops.{among_at, among_more}
use Rattle.lt_reference.proofs.answers.is_among.Goals as goal

pub returns-then-eq : goal.returns-then-eq
returns-then-eq c = sym (among_at c.args.rows.now c.args.row.now c.other-item.result c.loop-other.other-index c.loop-other-test.true c.other-item.is (sym c.eq.ensures ∙ c.if-eq.true))

pub loop-other-preserved : goal.loop-other-preserved
loop-other-preserved c = among_more c.args.rows.now c.args.row.now c.other-item.result c.loop-other.other-index c.loop-other-test.true c.other-item.is c.loop-other.invariant (sym c.eq.ensures ∙ c.if-eq.false)
