use Rattle.std.proofs.Common.{◌≡◌, length, map-id, rules, sym, subst, ◌∙◌}
use Rattle.std.proofs.lemmas.Iterator.Consumers.{YieldsList-end, YieldsList-turn}
use Rattle.std.proofs.lemmas.Iterator.Adapters.{YieldsList-from_vec}
use Rattle.lt_face.proofs.RowLemmas.{each_at}
use Rattle.lt_model.specs.Limits.{IsWithinLimits}
use Rattle.lt_world.specs.World.{ShowsNow}
use Rattle.lt_runs.specs.Coming.{HasCome}
use Rattle.lt_runs.proofs.Summing.{come_alone, none_run, one_run, room_for_one, world_now}
use Rattle.lt_runs.proofs.bench.run_alone.Goals as goal

pub loop-item-init : goal.loop-item-init
loop-item-init g c = record {
  can_next = search rules;
  is_finite = search rules;
  so_far = none_run ShowsNow c.in_ok-world.world c.new-summary.result c.in_ok-world.ensures c.new-summary.ensures.counts;
  programs = c.new-summary.ensures.programs ∙ c.from.ensures;
}

pub count_item-requires-clause-world : goal.count_item-requires-clause-world
count_item-requires-clause-world g c = λ lifetimes outlive. world_now c.loop-item.yielded c.loop-item.world c.loop-item.summary c.loop-item.invariant.so_far

pub count_item-requires-clause-within : goal.count_item-requires-clause-within
count_item-requires-clause-within g c = λ lifetimes outlive.
    let given = YieldsList-from_vec {s = c.into_iter-item-iterator.result} c.args.script.items (search rules) (search rules) in
    let turn = YieldsList-turn given c.loop-item.yielded c.loop-item.item-iterator c.loop-item.yielded_by c.next.result c.next.new.self c.in-Some.item c.in-Some.is c.next.ensures.steps in
    subst IsWithinLimits (sym turn.1) (each_at IsWithinLimits c.args.script.items (length c.loop-item.yielded) c.in-Some.item c.requires.within turn.0)

pub count_item-requires-clause-room : goal.count_item-requires-clause-room
count_item-requires-clause-room g c = λ lifetimes outlive.
    let given = YieldsList-from_vec {s = c.into_iter-item-iterator.result} c.args.script.items (search rules) (search rules) in
    let turn = YieldsList-turn given c.loop-item.yielded c.loop-item.item-iterator c.loop-item.yielded_by c.next.result c.next.new.self c.in-Some.item c.in-Some.is c.next.ensures.steps in
    room_for_one ShowsNow c.loop-item.yielded c.loop-item.world c.loop-item.summary c.loop-item.invariant.so_far (length c.args.script.items) turn.0 c.requires.few

pub loop-item-preserved : goal.loop-item-preserved
loop-item-preserved g c =
    let given = YieldsList-from_vec {s = c.into_iter-item-iterator.result} c.args.script.items (search rules) (search rules) in
    let turn = YieldsList-turn given c.loop-item.yielded c.loop-item.item-iterator c.loop-item.yielded_by c.next.result c.next.new.self c.in-Some.item c.in-Some.is c.next.ensures.steps in
    let within : IsWithinLimits c.in-Some.item = subst IsWithinLimits (sym turn.1) (each_at IsWithinLimits c.args.script.items (length c.loop-item.yielded) c.in-Some.item c.requires.within turn.0) in
    record {
      can_next = search rules;
      is_finite = search rules;
      so_far =
          one_run ShowsNow c.loop-item.yielded c.loop-item.world c.loop-item.summary c.loop-item.invariant.so_far c.in-Some.item c.count_item.new.world c.count_item.new.summary within
          c.in_ok-count_item.ensures.world c.in_ok-count_item.ensures.counts;
      programs = c.in_ok-count_item.ensures.programs ∙ c.loop-item.invariant.programs;
    }

pub returns-clause-come : goal.returns-clause-come
returns-clause-come g c =
    let given = YieldsList-from_vec {s = c.into_iter-item-iterator.result} c.args.script.items (search rules) (search rules) in
    let ended = YieldsList-end given c.loop-item.yielded c.loop-item.item-iterator c.loop-item.yielded_by c.next.result c.next.new.self c.in-None.is c.next.ensures.steps in
    let all : c.loop-item.yielded ≡ c.args.script.items = sym (map-id c.loop-item.yielded) ∙ ended.0 in
    subst (λ xs. HasCome xs (record { world = c.loop-item.world; summary = c.loop-item.summary })) all (come_alone c.loop-item.yielded (record { world = c.loop-item.world; summary = c.loop-item.summary }) c.loop-item.invariant.so_far)
