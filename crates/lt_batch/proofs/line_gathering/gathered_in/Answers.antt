use Rattle.std.proofs.Common.{◌+◌, ◌∙◌, add-one, arith}
use Rattle.lt_batch.proofs.LineRuns.{fit_snapshot, gathered_all, gathers_more, size_is}
use Rattle.lt_batch.proofs.line_gathering.gathered_in.Goals as goal

pub loop-leaf-preserved : goal.loop-leaf-preserved
loop-leaf-preserved c =
    let h = c.requires.line in
    let size = size_is c.args.line.now (c.args.s + 1) h c.args.s in
    rw (add-one, c.in_ok-push.ensures.ok, c.in_ok-push-2.ensures.ok)
    (gathers_more c.args.line.now (c.args.s + 1) h c.args.s c.loop-leaf.leaf c.loop-leaf.replies c.loop-leaf.effects c.tally.result.now c.in_ok-reply.reply c.in_ok-effect.effect
    (omega arith) (omega (arith, size)) c.loop-leaf.invariant c.tally.ensures.stands (c.in_ok-reply.ensures ∙ c.reply.ensures) (c.in_ok-effect.ensures ∙ c.effect.ensures.value))

pub returns-clause-replies : goal.returns-clause-replies
returns-clause-replies c = (gathered_all c.args.line.now (c.args.s + 1) c.requires.line c.args.s c.loop-leaf.leaf c.loop-leaf.replies c.loop-leaf.effects (omega arith) (omega arith) c.loop-leaf.invariant).0

pub returns-clause-effects : goal.returns-clause-effects
returns-clause-effects c = (gathered_all c.args.line.now (c.args.s + 1) c.requires.line c.args.s c.loop-leaf.leaf c.loop-leaf.replies c.loop-leaf.effects (omega arith) (omega arith) c.loop-leaf.invariant).1

pub returns-clause-fit : goal.returns-clause-fit
returns-clause-fit c = fit_snapshot c.args.line.now (c.args.s + 1) c.requires.line c.args.s c.loop-leaf.effects c.loop-leaf.invariant.fit
