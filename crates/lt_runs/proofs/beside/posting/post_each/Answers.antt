use Rattle.std.proofs.Common.{◌≡◌, ◌<◌, ◌++◌, List, false, length, map-id, rules, sym, subst, ◌∙◌, arith}
use Rattle.std.proofs.lemmas.List.{length-append}
use Rattle.std.proofs.lemmas.Iterator.Consumers.{YieldsList-end, YieldsList-turn}
use Rattle.std.proofs.lemmas.Iterator.Adapters.{YieldsList-from_vec}
use Rattle.lt_face.proofs.RowLemmas.{each_at}
use Rattle.lt_model.specs.declared.syntax.Item.{Item}
use Rattle.lt_model.specs.Limits.{IsWithinLimits}
use Rattle.lt_readers.specs.Boards.{posted}
use Rattle.lt_runs.specs.Coming.{IsBatch}
use Rattle.lt_runs.specs.Posting.{HasPosted}
use Rattle.lt_world.specs.World.{Shows}
use Rattle.lt_runs.proofs.Posted.{none_posted, one_posted}
use Rattle.lt_runs.proofs.Summing.{room_for_one, world_kept}
use Rattle.lt_runs.proofs.beside.posting.post_each.Goals as goal

pub loop-batch-init : goal.loop-batch-init
loop-batch-init g c = record {
  can_next = search rules;
  is_finite = search rules;
  so_far = none_posted c.args.come.now (posted c.args.poster.now);
  board = search rules;
}

pub post_one-requires-clause-world : goal.post_one-requires-clause-world
post_one-requires-clause-world g c = λ lifetimes outlive.
    let r = c.requires in
    world_kept (r.front ++ c.loop-batch.yielded) c.loop-batch.come.world c.loop-batch.come.summary (c.loop-batch.invariant.so_far.run r.front r.run)

pub post_one-requires-clause-within : goal.post_one-requires-clause-within
post_one-requires-clause-within g c = λ lifetimes outlive.
    let given = YieldsList-from_vec {s = c.into_iter-batch-iterator.result} c.args.batches.items (search rules) (search rules) in
    let turn = YieldsList-turn given c.loop-batch.yielded c.loop-batch.batch-iterator c.loop-batch.yielded_by c.next.result c.next.new.self c.in-Some.batch c.in-Some.is c.next.ensures.steps in
    subst IsWithinLimits (sym turn.1) (each_at IsWithinLimits c.args.batches.items (length c.loop-batch.yielded) c.in-Some.batch c.requires.within turn.0)

pub post_one-requires-clause-batch : goal.post_one-requires-clause-batch
post_one-requires-clause-batch g c = λ lifetimes outlive.
    let given = YieldsList-from_vec {s = c.into_iter-batch-iterator.result} c.args.batches.items (search rules) (search rules) in
    let turn = YieldsList-turn given c.loop-batch.yielded c.loop-batch.batch-iterator c.loop-batch.yielded_by c.next.result c.next.new.self c.in-Some.batch c.in-Some.is c.next.ensures.steps in
    subst IsBatch (sym turn.1) (each_at IsBatch c.args.batches.items (length c.loop-batch.yielded) c.in-Some.batch c.requires.are turn.0)

pub post_one-requires-clause-room : goal.post_one-requires-clause-room
post_one-requires-clause-room g c = λ lifetimes outlive.
    let given = YieldsList-from_vec {s = c.into_iter-batch-iterator.result} c.args.batches.items (search rules) (search rules) in
    let turn = YieldsList-turn given c.loop-batch.yielded c.loop-batch.batch-iterator c.loop-batch.yielded_by c.next.result c.next.new.self c.in-Some.batch c.in-Some.is c.next.ensures.steps in
    let r = c.requires in
    let all = length-append r.front c.loop-batch.yielded in
    let below : length (r.front ++ c.loop-batch.yielded) < 1027 = omega (arith, all, turn.0, r.few) in
    room_for_one Shows (r.front ++ c.loop-batch.yielded) c.loop-batch.come.world c.loop-batch.come.summary (c.loop-batch.invariant.so_far.run r.front r.run) 1027 below (omega arith)

pub post_one-requires-clause-posted : goal.post_one-requires-clause-posted
post_one-requires-clause-posted g c = λ lifetimes outlive.
    let given = YieldsList-from_vec {s = c.into_iter-batch-iterator.result} c.args.batches.items (search rules) (search rules) in
    let turn = YieldsList-turn given c.loop-batch.yielded c.loop-batch.batch-iterator c.loop-batch.yielded_by c.next.result c.next.new.self c.in-Some.batch c.in-Some.is c.next.ensures.steps in
    let r = c.requires in
    let before = c.loop-batch.invariant.so_far in
    (r.most, before.posted r.most r.posted, omega (arith, before.longer, turn.0, r.room))

pub loop-batch-preserved : goal.loop-batch-preserved
loop-batch-preserved g c =
    let given = YieldsList-from_vec {s = c.into_iter-batch-iterator.result} c.args.batches.items (search rules) (search rules) in
    let turn = YieldsList-turn given c.loop-batch.yielded c.loop-batch.batch-iterator c.loop-batch.yielded_by c.next.result c.next.new.self c.in-Some.batch c.in-Some.is c.next.ensures.steps in
    let within = subst IsWithinLimits (sym turn.1) (each_at IsWithinLimits c.args.batches.items (length c.loop-batch.yielded) c.in-Some.batch c.requires.within turn.0) in
    let did = c.in_ok-post_one.ensures in
    record {
      can_next = search rules;
      is_finite = search rules;
      so_far = one_posted c.args.come.now c.loop-batch.yielded (posted c.args.poster.now) (posted c.loop-batch.poster) (posted c.post_one.new.poster) c.loop-batch.come c.post_one.new.come c.in-Some.batch
          c.loop-batch.invariant.so_far within (did.world false) did.counts did.programs did.posted did.first did.longer;
      board = c.post_one.ensures.board ∙ c.loop-batch.invariant.board;
    }

pub returns-clause-posted : goal.returns-clause-posted
returns-clause-posted g c =
    let given = YieldsList-from_vec {s = c.into_iter-batch-iterator.result} c.args.batches.items (search rules) (search rules) in
    let ended = YieldsList-end given c.loop-batch.yielded c.loop-batch.batch-iterator c.loop-batch.yielded_by c.next.result c.next.new.self c.in-None.is c.next.ensures.steps in
    let all : c.loop-batch.yielded ≡ c.args.batches.items = sym (map-id c.loop-batch.yielded) ∙ ended.0 in
    subst (λ (xs : List Item). HasPosted c.args.come.now xs (posted c.args.poster.now) (posted c.loop-batch.poster) c.loop-batch.come) all c.loop-batch.invariant.so_far
