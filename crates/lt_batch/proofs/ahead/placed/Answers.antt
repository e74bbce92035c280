use Rattle.std.proofs.Common.{◌∙◌, length, rules}
use Rattle.std.proofs.lemmas.Iterator.Consumers.{YieldsList-turn}
use Rattle.std.proofs.lemmas.Iterator.Adapters.{YieldsList-from_vec}
use Rattle.lt_batch.proofs.AheadRuns.{in_place_of}
use Rattle.lt_batch.proofs.ahead.placed.Goals as goal

pub loop-list-preserved : goal.loop-list-preserved
loop-list-preserved c =
    let given = YieldsList-from_vec {s = c.into_iter-list-iterator.result} c.args.lists.items (search rules) (search rules) in
    let turn = YieldsList-turn given c.loop-list.yielded c.loop-list.list-iterator c.loop-list.yielded_by c.next.result c.next.new.self c.in-Some.list c.in-Some.is c.next.ensures.steps in
    record {
      can_next = search rules;
      is_finite = search rules;
      long = c.put_all.ensures.long ∙ c.loop-list.invariant.long;
      ahead = λ programs s are.
          c.put_all.ensures.ahead programs s (c.loop-list.invariant.ahead programs s are)
          (in_place_of programs s c.args.lists.items (length c.loop-list.yielded) c.in-Some.list c.in_ok-runs.runs turn.0 turn.1 c.in_ok-runs.was are);
    }
