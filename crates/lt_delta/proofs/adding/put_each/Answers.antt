use Rattle.std.proofs.Common.{◌≡◌, ◌+◌, ◌<◌, [], ◌∷◌, ◌++◌, map, length, rules, arith, length-append}
use Rattle.std.specs.Arc.{arc_value}
use Rattle.std.specs.Vec.{vec_len, vec_capacity}
use Rattle.std.proofs.lemmas.Iterator.Consumers.{YieldsList-turn}
use Rattle.std.proofs.lemmas.Iterator.Adapters.{YieldsList-from_vec}
use Rattle.lt_model.proofs.Composition.{AreMarks-and_then}
use Rattle.lt_delta.proofs.Puts.{owner_next}
use Rattle.lt_delta.proofs.adding.put_each.Goals as goal

pub put-requires : goal.put-requires
put-requires c = rw c.loop-mark.invariant.done (AreMarks-and_then (map arc_value c.args.marks.now.items) (map arc_value c.loop-mark.yielded) c.requires.ascend)

pub loop-mark-preserved : goal.loop-mark-preserved
loop-mark-preserved c = record {
  can_next = search rules;
  is_finite = search rules;
  done = owner_next arc_value c.put.new.marks.items c.loop-mark.marks.items c.args.marks.now.items c.loop-mark.yielded c.in-Some.mark c.in_ok-put.ensures.ok c.loop-mark.invariant.done;
  room =
      let more : length (c.loop-mark.yielded ++ c.in-Some.mark ∷ []) ≡ length c.loop-mark.yielded + 1 = length-append c.loop-mark.yielded (c.in-Some.mark ∷ []) in
      omega (arith, more, c.put.ensures.grows, c.put.ensures.room, c.loop-mark.invariant.room);
}

pub returns-in_err-put-clause-succeeds : goal.returns-in_err-put-clause-succeeds
returns-in_err-put-clause-succeeds c =
    let given = YieldsList-from_vec {s = c.into_iter-mark-iterator.result} c.args.more.items (search rules) (search rules) in
    let turn = YieldsList-turn given c.loop-mark.yielded c.loop-mark.mark-iterator c.loop-mark.yielded_by c.next.result c.next.new.self c.in-Some.mark c.in-Some.is c.next.ensures.steps in
    let left : length c.loop-mark.yielded < length c.args.more.items = turn.0 in
    let room : vec_len c.loop-mark.marks < vec_capacity c.loop-mark.marks = omega (arith, left, c.loop-mark.invariant.room) in
    let never = c.in_err-put.ensures.succeeds room in
    absurd cc
