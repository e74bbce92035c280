use Rattle.std.proofs.Common.{◌∙◌, [], refl, sym, ap, add-one, arith}
use Rattle.lt_model.specs.Marks.{Marks}
use Rattle.lt_model.specs.declared.reply.Reply.{Reply}
use Rattle.lt_base.specs.Tables.{state_of}
use Rattle.lt_circuit.specs.Circuit.{state}
use Rattle.lt_net.specs.Tree.{leaf_value, then_all}
use Rattle.lt_batch.proofs.InOrder.{ran_more, each_leaf}
use Rattle.lt_batch.proofs.Leaves.{runs_alone}
use Rattle.lt_batch.proofs.gathering.gathered.Goals as goal

pub loop-leaf-preserved : goal.loop-leaf-preserved
loop-leaf-preserved c =
    let work = c.args.circuit.now.work in
    let alone = runs_alone work (state_of work.snapshot) work.programs refl c.requires.batch (omega (arith, c.requires.few, c.requires.leaves, c.requires.programs)) c.loop-leaf.leaf (then_all (leaf_value c.args.circuit.now.board.leaves (state c.args.circuit.now)) [] c.loop-leaf.leaf) in
    rw (add-one, c.in_ok-push.ensures.ok, c.in_ok-push-2.ensures.ok)
    (ran_more c.args.circuit.now.work.programs (state_of c.args.circuit.now.work.snapshot) c.requires.runnable (leaf_value c.args.circuit.now.board.leaves (state c.args.circuit.now))
    c.loop-leaf.leaf c.loop-leaf.replies c.loop-leaf.effects c.in_ok-reply.reply c.in_ok-effect.effect
    (omega arith) c.loop-leaf.invariant
    (sym c.effect.ensures.value ∙ c.effect.ensures.serial c.requires.settled ∙ ap (λ (out : Reply × Marks). out.1) alone)
    (c.in_ok-reply.ensures ∙ c.reply.ensures ∙ c.tally.ensures.stands.reply ∙ ap (λ (out : Reply × Marks). out.0) alone)
    (c.in_ok-effect.ensures ∙ c.effect.ensures.value))

pub returns-clause-leaves : goal.returns-clause-leaves
returns-clause-leaves c = λ i below.
    each_leaf (leaf_value c.args.circuit.now.board.leaves (state c.args.circuit.now)) c.loop-leaf.leaf c.loop-leaf.effects c.loop-leaf.invariant.are_leaves i (omega (arith, below))
