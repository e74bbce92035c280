use Rattle.std.proofs.Common.{ℕ, ◌+◌, ◌++◌, [], List, take, drop, get_or, refl, sym, ap, ◌∙◌, subst, arith}
use Rattle.lt_join.specs.MendedRows.{AreJoinedIn}
use Rattle.lt_join.specs.OfKey.{IsOwnSliceOf}
use Rattle.lt_join.specs.Slices.{AreBelow, KeyRows, sense_keys}
use Rattle.lt_face.specs.Lists.{IsIn}
use Rattle.lt_join.proofs.JoinedKeys.{joined_begun, joined_more, low_begun, low_more, next_of, not_before}
use Rattle.lt_join.proofs.Lists.{take_all, take_more, is_in_at}
use Rattle.lt_join.proofs.MendJoin.{key_is, cost_more, cost_within, cost_stopped}
use Rattle.lt_join.proofs.Repair.{All_at}
use Rattle.lt_join.proofs.mending_join.put_joined.Goals as goal

pub loop-key-init : goal.loop-key-init
loop-key-init g c =
    let state = g.I.Indexes.state c.args.indexes.now in
    let IsNew = IsOwnSliceOf c.args.terms.now c.args.body.now c.args.plan.now state in
    record {
      root = refl;
      joined = joined_begun IsNew c.args.sense.slices c.args.old.now [] c.args.sense.slices (c.new-rows.result.items ++ c.args.old.now) refl refl (ap (λ (xs : List KeyRows). xs ++ c.args.old.now) c.new-rows.ensures.items) c.requires.senses c.requires.rows;
      within = omega arith;
      low = low_begun c.args.keys.now c.new-rows.result.items c.new-rows.ensures.items;
      cost = omega arith;
      rises = omega arith;
    }

pub put_rows-requires-clause-below : goal.put_rows-requires-clause-below
put_rows-requires-clause-below g c =
    (next_of (AreBelow c.loop-key.rows.items) c.args.keys.now c.loop-key.key-index (get_or c.args.keys.now c.loop-key.key-index 0) c.loop-key-test.true (key_is c.args.keys.now c.loop-key.key-index c.loop-key-test.true) c.loop-key.invariant.low).0

pub loop-key-preserved : goal.loop-key-preserved
loop-key-preserved g c =
    let state = g.I.Indexes.state c.args.indexes.now in
    let IsNew = IsOwnSliceOf c.args.terms.now c.args.body.now c.args.plan.now state in
    let keys = c.args.keys.now in
    let i = c.loop-key.key-index in
    let key = (get_or c.args.keys.now c.loop-key.key-index 0) in
    let lt = c.loop-key-test.true in
    let is = key_is keys i lt in
    let inv = c.loop-key.invariant in
    let out : IsIn key (sense_keys c.args.sense.slices) → ⊥ = λ at. All_at (λ k. IsIn k keys → ⊥) (sense_keys c.args.sense.slices) key c.requires.others at (is_in_at keys i key lt is) in
    record {
      root = c.in_ok-add_slice.ensures.root ∙ inv.root;
      joined = joined_more IsNew c.args.sense.slices c.args.old.now (take i keys) (take (i + 1) keys) key c.in_ok-found.found c.in_ok-found.part c.loop-key.sense.slices c.add_slice.new.self.slices (c.loop-key.rows.items ++ drop c.loop-key.place c.args.old.now) (c.put_rows.new.out.items ++ drop c.in_ok-place.place c.args.old.now)
          (take_more keys i key lt is) c.in_ok-add_slice.ensures.slices c.in_ok-place.ensures.put (not_before keys i key c.requires.keys lt is) out (c.in_ok-found.ensures.slice, c.in_ok-found.ensures.of_key) inv.joined;
      within = c.in_ok-place.ensures.within;
      low = low_more keys i key c.in_ok-found.found c.loop-key.rows.items c.put_rows.new.out.items (drop c.loop-key.place c.args.old.now) c.requires.keys lt is c.in_ok-place.ensures.out inv.low;
      cost = cost_more keys i key c.args.body.now c.args.plan.now state c.args.moves.now c.loop-key.moves c.join_slice.new.moves lt is c.join_slice.ensures.cost inv.cost;
      rises = omega (arith, inv.rises, c.join_slice.ensures.moves);
    }

pub returns-clause-root : goal.returns-clause-root
returns-clause-root g c = c.loop-key.invariant.root

pub returns-clause-joined : goal.returns-clause-joined
returns-clause-joined g c =
    let IsNew = IsOwnSliceOf c.args.terms.now c.args.body.now c.args.plan.now (g.I.Indexes.state c.args.indexes.now) in
    subst (λ (rows : List KeyRows). AreJoinedIn IsNew c.args.keys.now c.args.sense.slices c.args.old.now c.loop-key.sense.slices rows) (sym c.in_ok-share_from.ensures)
    (subst (λ (ks : List ℕ). AreJoinedIn IsNew ks c.args.sense.slices c.args.old.now c.loop-key.sense.slices (c.loop-key.rows.items ++ drop c.loop-key.place c.args.old.now)) (take_all c.args.keys.now c.loop-key.key-index (omega (arith, c.loop-key-test.false))) c.loop-key.invariant.joined)

pub returns-clause-cost : goal.returns-clause-cost
returns-clause-cost g c = cost_within c.args.keys.now c.loop-key.key-index c.args.body.now c.args.plan.now (g.I.Indexes.state c.args.indexes.now) c.args.moves.now c.loop-key.moves c.loop-key.invariant.cost

pub returns-in_err-share_from-clause-cost : goal.returns-in_err-share_from-clause-cost
returns-in_err-share_from-clause-cost g c = cost_within c.args.keys.now c.loop-key.key-index c.args.body.now c.args.plan.now (g.I.Indexes.state c.args.indexes.now) c.args.moves.now c.loop-key.moves c.loop-key.invariant.cost

pub returns-in_err-found-clause-cost : goal.returns-in_err-found-clause-cost
returns-in_err-found-clause-cost g c = cost_stopped c.args.keys.now c.loop-key.key-index (get_or c.args.keys.now c.loop-key.key-index 0) c.args.body.now c.args.plan.now (g.I.Indexes.state c.args.indexes.now) c.args.moves.now c.loop-key.moves c.join_slice.new.moves c.loop-key-test.true (key_is c.args.keys.now c.loop-key.key-index c.loop-key-test.true) c.join_slice.ensures.cost c.loop-key.invariant.cost

pub returns-in_err-add_slice-clause-cost : goal.returns-in_err-add_slice-clause-cost
returns-in_err-add_slice-clause-cost g c = cost_stopped c.args.keys.now c.loop-key.key-index (get_or c.args.keys.now c.loop-key.key-index 0) c.args.body.now c.args.plan.now (g.I.Indexes.state c.args.indexes.now) c.args.moves.now c.loop-key.moves c.join_slice.new.moves c.loop-key-test.true (key_is c.args.keys.now c.loop-key.key-index c.loop-key-test.true) c.join_slice.ensures.cost c.loop-key.invariant.cost

pub returns-in_err-place-clause-cost : goal.returns-in_err-place-clause-cost
returns-in_err-place-clause-cost g c = cost_stopped c.args.keys.now c.loop-key.key-index (get_or c.args.keys.now c.loop-key.key-index 0) c.args.body.now c.args.plan.now (g.I.Indexes.state c.args.indexes.now) c.args.moves.now c.loop-key.moves c.join_slice.new.moves c.loop-key-test.true (key_is c.args.keys.now c.loop-key.key-index c.loop-key-test.true) c.join_slice.ensures.cost c.loop-key.invariant.cost

pub returns-in_err-found-clause-moves : goal.returns-in_err-found-clause-moves
returns-in_err-found-clause-moves g c = omega (arith, c.loop-key.invariant.rises, c.join_slice.ensures.moves)

pub returns-in_err-add_slice-clause-moves : goal.returns-in_err-add_slice-clause-moves
returns-in_err-add_slice-clause-moves g c = omega (arith, c.loop-key.invariant.rises, c.join_slice.ensures.moves)

pub returns-in_err-place-clause-moves : goal.returns-in_err-place-clause-moves
returns-in_err-place-clause-moves g c = omega (arith, c.loop-key.invariant.rises, c.join_slice.ensures.moves)
