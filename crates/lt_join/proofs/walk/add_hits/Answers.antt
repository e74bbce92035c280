use Rattle.std.proofs.Common.{◌≡◌, ◌-◌, ◌∙◌, List, length, sym, ap, subst, arith}
use Rattle.lt_query.specs.declared.plans.Level.{Level}
use Rattle.lt_query.specs.Holding.{atoms_at_level}
use Rattle.lt_join.specs.Way.{WayView, IsWay}
use Rattle.lt_join.specs.Values.{values_in}
use Rattle.lt_join.proofs.Hitting.{hit_all}
use Rattle.lt_join.proofs.KnownHits.{place_within, hits_few, hits_whole, places_narrow, places_there, hits_more, hits_skipped}
use Rattle.lt_join.proofs.walk.add_hits.Goals as goal
use Rattle.lt_join.proofs.walk.add_hits.Goals.{then-is_last+in_ok-add_hit_at, else-is_last}

pub bounds-iters-place : goal.bounds-iters-place
bounds-iters-place g c =
    let way = c.args.way.now in
    let is_way : IsWay way = subst IsWay c.way.view_is c.way.invariant.0 in
    let items : c.at_level-place-items.result.now ≡ atoms_at_level way.plan.guides (length c.args.keys.now - 1) =
    c.at_level-place-items.ensures.value ∙ (ap (λ (w : WayView). atoms_at_level w.plan.guides (c.len.result - 1)) c.way.view_is ∙ ap (λ n. atoms_at_level way.plan.guides (n - 1)) c.len.ensures) in
    place_within way is_way c.args.keys.now c.args.iters.now c.at_level-place-items.result.now c.requires.iters items c.loop-place.place-index c.loop-place-test.true

pub add_hit_at-requires-clause-narrow : goal.add_hit_at-requires-clause-narrow
add_hit_at-requires-clause-narrow g c =
    let way = c.args.way.now in
    let is_way : IsWay way = subst IsWay c.way.view_is c.way.invariant.0 in
    let items : c.at_level-place-items.result.now ≡ atoms_at_level way.plan.guides (length c.args.keys.now - 1) =
    c.at_level-place-items.ensures.value ∙ (ap (λ (w : WayView). atoms_at_level w.plan.guides (c.len.result - 1)) c.way.view_is ∙ ap (λ n. atoms_at_level way.plan.guides (n - 1)) c.len.ensures) in
    places_narrow way is_way c.args.keys.now c.args.iters.now c.at_level-place-items.result.now c.requires.iters items c.loop-place.place-index c.index-iters-place.result c.loop-place-test.true c.index-iters-place.is
    c.guide-guide.result.now c.as_slice-then-is_last.result.now c.guide-guide.ensures c.as_slice-then-is_last.ensures

pub add_hit_at-requires-clause-there : goal.add_hit_at-requires-clause-there
add_hit_at-requires-clause-there g c =
    let way = c.args.way.now in
    let is_way : IsWay way = subst IsWay c.way.view_is c.way.invariant.0 in
    let items : c.at_level-place-items.result.now ≡ atoms_at_level way.plan.guides (length c.args.keys.now - 1) =
    c.at_level-place-items.ensures.value ∙ (ap (λ (w : WayView). atoms_at_level w.plan.guides (c.len.result - 1)) c.way.view_is ∙ ap (λ n. atoms_at_level way.plan.guides (n - 1)) c.len.ensures) in
    let levels : c.as_slice.result.now ≡ way.plan.levels = c.as_slice.ensures ∙ ap (λ (w : WayView). w.plan.levels) c.way.view_is in
    let n = ap (λ (ls : List Level). length ls) levels in
    places_there way is_way c.args.keys.now c.args.iters.now c.at_level-place-items.result.now c.requires.iters items c.loop-place.place-index c.index-iters-place.result c.loop-place-test.true c.index-iters-place.is
    c.guide-guide.result.now c.as_slice-then-is_last.result.now (length c.as_slice.result.now) c.guide-guide.ensures c.as_slice-then-is_last.ensures (omega (arith, n, c.requires.within)) (sym c.is_last.ensures ∙ c.if-is_last.true)

pub loop-place-preserved : goal.loop-place-preserved
loop-place-preserved g c =
    let way = c.args.way.now in
    let is_way : IsWay way = subst IsWay c.way.view_is c.way.invariant.0 in
    let items : c.at_level-place-items.result.now ≡ atoms_at_level way.plan.guides (length c.args.keys.now - 1) =
    c.at_level-place-items.ensures.value ∙ (ap (λ (w : WayView). atoms_at_level w.plan.guides (c.len.result - 1)) c.way.view_is ∙ ap (λ n. atoms_at_level way.plan.guides (n - 1)) c.len.ensures) in
    let levels : c.as_slice.result.now ≡ way.plan.levels = c.as_slice.ensures ∙ ap (λ (w : WayView). w.plan.levels) c.way.view_is in
    elim c.if-is_last.branch [
      | then-is_last+in_ok-add_hit_at w ↦
          rw w.sense-is (hits_more way is_way c.args.keys.now c.args.iters.now c.at_level-place-items.result.now c.requires.iters items c.loop-place.place-index c.index-iters-place.result c.loop-place-test.true c.index-iters-place.is
          c.args.sense.now c.loop-place.sense w.add_hit_at.new.self (values_in c.args.values.now.cells) c.as_slice.result.now w.guide-guide.result.now w.as_slice-then-is_last.result.now (sym c.is_last.ensures ∙ w.if-is_last.true) c.requires.known levels w.guide-guide.ensures w.as_slice-then-is_last.ensures
          w.in_ok-add_hit_at.ensures.kept w.in_ok-add_hit_at.ensures.gaps c.loop-place.invariant)
      | else-is_last w ↦
          rw w.sense-is (hits_skipped way is_way c.args.keys.now c.args.iters.now c.at_level-place-items.result.now c.requires.iters items c.loop-place.place-index c.index-iters-place.result c.loop-place-test.true c.index-iters-place.is
          c.args.sense.now c.loop-place.sense (sym c.is_last.ensures ∙ w.if-is_last.false) c.loop-place.invariant)
    ]

pub returns-clause-hits : goal.returns-clause-hits
returns-clause-hits g c =
    let way = c.args.way.now in
    let is_way : IsWay way = subst IsWay c.way.view_is c.way.invariant.0 in
    let items : c.at_level-place-items.result.now ≡ atoms_at_level way.plan.guides (length c.args.keys.now - 1) =
    c.at_level-place-items.ensures.value ∙ (ap (λ (w : WayView). atoms_at_level w.plan.guides (c.len.result - 1)) c.way.view_is ∙ ap (λ n. atoms_at_level way.plan.guides (n - 1)) c.len.ensures) in
    hit_all way.state c.args.keys.now c.args.sense.now c.loop-place.sense way.plan.guides c.requires.some c.requires.hits
    (hits_whole way is_way c.args.keys.now c.args.iters.now c.at_level-place-items.result.now c.requires.iters items c.loop-place.place-index (let e = c.loop-place-test.false in omega arith) c.args.sense.now c.loop-place.sense c.loop-place.invariant)

pub returns-clause-few : goal.returns-clause-few
returns-clause-few g c =
    let way = c.args.way.now in
    let is_way : IsWay way = subst IsWay c.way.view_is c.way.invariant.0 in
    let items : c.at_level-place-items.result.now ≡ atoms_at_level way.plan.guides (length c.args.keys.now - 1) =
    c.at_level-place-items.ensures.value ∙ (ap (λ (w : WayView). atoms_at_level w.plan.guides (c.len.result - 1)) c.way.view_is ∙ ap (λ n. atoms_at_level way.plan.guides (n - 1)) c.len.ensures) in
    hits_few way is_way c.args.keys.now c.args.iters.now c.at_level-place-items.result.now c.requires.iters items c.loop-place.place-index (let e = c.loop-place-test.false in omega arith) c.args.sense.now c.loop-place.sense c.loop-place.invariant
