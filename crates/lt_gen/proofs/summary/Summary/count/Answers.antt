use Rattle.std.proofs.Common.{[], ◌∷◌, arith}
use Rattle.lt_gen.proofs.Adding.{few_done, few_refused}
use Rattle.lt_gen.proofs.summary.Summary.count.Goals as goal

pub overflow_add-self : goal.overflow_add-self
overflow_add-self c =
    let room = c.requires.room in
    let before = few_done room.answers in
    let more = few_done ((c.args.name.now, c.args.reply.now) ∷ []) in
    omega (arith, before, more, room.counts.done, room.few, c.ends-done.ensures.done)

pub overflow_add-self-2 : goal.overflow_add-self-2
overflow_add-self-2 c =
    let room = c.requires.room in
    let before = few_refused room.answers in
    let more = few_refused ((c.args.name.now, c.args.reply.now) ∷ []) in
    omega (arith, before, more, room.counts.refused, room.few, c.ends-done.ensures.refused)
