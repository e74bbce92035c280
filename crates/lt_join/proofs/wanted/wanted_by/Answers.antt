use Rattle.std.proofs.Common.{arith}
use Rattle.lt_join.proofs.Deciding.{decided_step}
use Rattle.lt_join.proofs.wanted.wanted_by.Goals as goal
use Rattle.lt_join.proofs.wanted.wanted_by.Goals.{then-wanted-count, else-wanted-count}

pub loop-term-preserved : goal.loop-term-preserved
loop-term-preserved c = elim c.if-wanted-count.branch [
  | then-wanted-count w ↦
      decided_step c.args.levels.now c.loop-term.wanted c.levels_up_to-count.result c.if-wanted-count.wanted c.args.terms.now c.loop-term.term-index _ c.loop-term-test.true
      (omega (arith, w.if-wanted-count.true, w.wanted-is)) (omega (arith, w.wanted-is)) (omega (arith, w.wanted-is, c.levels_up_to-count.ensures.within)) c.loop-term.invariant.1 c.levels_up_to-count.ensures.decided
  | else-wanted-count w ↦
      decided_step c.args.levels.now c.loop-term.wanted c.levels_up_to-count.result c.if-wanted-count.wanted c.args.terms.now c.loop-term.term-index _ c.loop-term-test.true
      (omega (arith, w.wanted-is)) (omega (arith, w.if-wanted-count.false, w.wanted-is)) (omega (arith, w.wanted-is, c.loop-term.invariant.0)) c.loop-term.invariant.1 c.levels_up_to-count.ensures.decided
]
