use Rattle.std.proofs.Common.{rules, ◌≡◌, ◌<◌, [], length, map, set, slice_index, sym, ap, ◌∙◌, arith}
use Rattle.std.proofs.lemmas.List.{map-set, get_or-map, length-map}
use Rattle.std.proofs.Math.Seq.{map-set_same}
use Rattle.lt_face.specs.Keys.{least_from}
use Rattle.lt_leap.specs.Ring.{keys_at}
use Rattle.lt_leap.proofs.Advanced.{advanced}
use Rattle.lt_leap.proofs.ring.turn.Goals as goal

pub returns-clause-keys : goal.returns-clause-keys
returns-clause-keys g c =
    let K = g.I.KeyIter.keys in
    map-set_same K c.args.iters.now.items c.index.result.now c.seek-gap.new.self c.index_mut-iter.result.now (c.seek-gap.ensures.keys ∙ ap K c.index_mut-iter.ensures.value)

pub returns-clause-still : goal.returns-clause-still
returns-clause-still g c =
    let S = g.I.KeyIter.still in
    map-set_same S c.args.iters.now.items c.index.result.now c.seek-gap.new.self c.index_mut-iter.result.now (c.seek-gap.ensures.still ∙ ap S c.index_mut-iter.ensures.value)

pub returns-clause-moved : goal.returns-clause-moved
returns-clause-moved g c =
    let K = g.I.KeyIter.keys in
    let H = g.I.KeyIter.here in
    let items = c.args.iters.now.items in
    let place = c.index.result.now in
    let at : place ≡ slice_index c.args.ring.now.items 0 = search rules in
    let inside : place < length items = omega (arith, c.requires.ring.in_range 0 c.requires.ring.some, length-map items H, at) in
    let seen : keys_at (map K items) place ≡ K c.index_mut-iter.result.now = get_or-map K items place c.index_mut-iter.result.now [] inside ∙ ap K (sym c.index_mut-iter.ensures.value) in
    rw (← at) (map-set H items place c.seek-gap.new.self ∙ ap (set (map H items) place) (c.seek-gap.ensures.here ∙ ap (λ ks. least_from ks c.args.to) (sym seen)))

pub returns-clause-ring : goal.returns-clause-ring
returns-clause-ring g c =
    let l = length-map c.args.iters.now.items g.I.KeyIter.here in
    let a = advanced _ _ _ c.args.to _ _ c.requires.ring (λ i lt. c.requires.ahead i (omega arith)) c.requires.bound (returns-clause-moved g c) c.put_last.ensures in
    rw (returns-clause-keys g c) a.is_ring

pub returns-clause-is_move : goal.returns-clause-is_move
returns-clause-is_move g c =
    let K = g.I.KeyIter.keys in
    let items = c.args.iters.now.items in
    let place = c.index.result.now in
    let l = length-map items g.I.KeyIter.here in
    let at : place ≡ slice_index c.args.ring.now.items 0 = search rules in
    let within = c.requires.ring.in_range 0 c.requires.ring.some in
    let inside : place < length items = omega arith in
    let seen : keys_at (map K items) place ≡ K c.index_mut-iter.result.now = get_or-map K items place c.index_mut-iter.result.now [] inside ∙ ap K (sym c.index_mut-iter.ensures.value) in
    let seek = c.seek-gap.ensures in
    record {
      within = within;
      goes_on = c.requires.goes_on;
      ahead = (let ahead = c.requires.ahead (slice_index c.args.ring.now.items 0) (omega arith) in let lo = seek.lo in omega arith);
      lands = rw (← at) (seek.hi ∙ seek.here ∙ ap (λ ks. least_from ks c.args.to) (sym seen) ∙ ap (least_from (keys_at (map K items) place)) (sym seek.lo));
    }
