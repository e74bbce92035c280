use Rattle.std.proofs.Common.{sym, ◌∙◌}
use Rattle.lt_answers.proofs.AscendingRows.{ascends_one, ascends_more, is_less}
use Rattle.lt_answers.proofs.ascending.are_ascending.Goals as goal

pub loop-i-init : goal.loop-i-init
loop-i-init c = ascends_one c.args.rows.now

pub loop-i-preserved : goal.loop-i-preserved
loop-i-preserved c =
    ascends_more c.args.rows.now c.loop-i.i c.index-rows-i.result c.index-rows-i-in-loop-i.result c.loop-i.auto.i c.loop-i-test.true c.index-rows-i.is c.index-rows-i-in-loop-i.is (sym c.cmp.ensures ∙ is_less c.cmp.result (sym c.is_lt.ensures ∙ c.if-not-is_lt.false)) c.loop-i.invariant
