use Rattle.std.proofs.Common.{◌+◌, length, sym, ap, ◌∙◌, subst, arith, get_or, set, take, length-set}
use Rattle.lt_join.specs.Level.{AreOpened, AreSensed}
use Rattle.lt_join.specs.Way.{WayView}
use Rattle.lt_leap.specs.Places.{ArePlaces}
use Rattle.lt_join.proofs.Opened.{place_within, places_taken, level_places, next_at, opened_more}
use Rattle.lt_join.proofs.Rising.{AreAtKey, at_key_more, key_sensed, lacks_key}
use Rattle.lt_join.proofs.level.open_at_key.Goals as goal

pub offset_bounds-iters-place : goal.offset_bounds-iters-place
offset_bounds-iters-place g c =
    let places = c.at_level-places.result.now in
    let at_level = c.at_level-places.ensures in
    let same = ap (λ (w : WayView). w.plan) c.way.view_is in
    let are = level_places c.way.inside.plan.now c.args.way.now.plan c.args.way.now.state c.args.keys.now places (take c.loop-i.i places) c.args.iters.now c.loop-i.iters same c.requires.iters at_level.within at_level.rising c.loop-i.invariant.opened in
    let within = place_within places (length c.loop-i.iters) c.loop-i.i are.within (omega arith) in
    omega arith

pub bounds-iters-place : goal.bounds-iters-place
bounds-iters-place g c =
    let places = c.at_level-places.result.now in
    let at_level = c.at_level-places.ensures in
    let same = ap (λ (w : WayView). w.plan) c.way.view_is in
    let are = level_places c.way.inside.plan.now c.args.way.now.plan c.args.way.now.state c.args.keys.now places (take c.loop-i.i places) c.args.iters.now c.loop-i.iters same c.requires.iters at_level.within at_level.rising c.loop-i.invariant.opened in
    let within = place_within places (length c.loop-i.iters) c.loop-i.i are.within (omega arith) in
    within

pub open_lone-requires-clause-holds : goal.open_lone-requires-clause-holds
open_lone-requires-clause-holds g c =
    let places = c.at_level-places.result.now in
    let at_level = c.at_level-places.ensures in
    let same = ap (λ (w : WayView). w.plan) c.way.view_is in
    let n = next_at c.way.inside.body.now c.way.inside.plan.now c.args.way.now.plan c.args.way.now.state c.args.keys.now c.len.result c.args.iters.now c.loop-i.iters places c.loop-i.i c.index-iters-place.result c.way.invariant.0.of_body same c.len.ensures c.requires.iters
    at_level.value at_level.within at_level.rising c.loop-i.invariant.opened (omega arith) in
    n.holds

pub close-requires-clause-places : goal.close-requires-clause-places
close-requires-clause-places g c =
    let places = c.at_level-places.result.now in
    let at_level = c.at_level-places.ensures in
    let same = ap (λ (w : WayView). w.plan) c.way.view_is in
    let are = level_places c.way.inside.plan.now c.args.way.now.plan c.args.way.now.state c.args.keys.now places (take c.loop-i.i places) c.args.iters.now c.loop-i.iters same c.requires.iters at_level.within at_level.rising c.loop-i.invariant.opened in
    subst (ArePlaces (take (c.loop-i.i + 1) places)) (sym (length-set c.loop-i.iters (get_or places c.loop-i.i 0) c.open_lone.new.iter)) (places_taken places (length c.loop-i.iters) (c.loop-i.i + 1) are)

pub close-requires-clause-opened : goal.close-requires-clause-opened
close-requires-clause-opened g c =
    let places = c.at_level-places.result.now in
    let at_level = c.at_level-places.ensures in
    let same = ap (λ (w : WayView). w.plan) c.way.view_is in
    let n = next_at c.way.inside.body.now c.way.inside.plan.now c.args.way.now.plan c.args.way.now.state c.args.keys.now c.len.result c.args.iters.now c.loop-i.iters places c.loop-i.i c.index-iters-place.result c.way.invariant.0.of_body same c.len.ensures c.requires.iters
    at_level.value at_level.within at_level.rising c.loop-i.invariant.opened (omega arith) in
    let opened : AreOpened (take (c.loop-i.i + 1) places) c.args.iters.now (set c.loop-i.iters (get_or places c.loop-i.i 0) c.open_lone.new.iter) =
    subst (λ ps. AreOpened ps c.args.iters.now (set c.loop-i.iters (get_or places c.loop-i.i 0) c.open_lone.new.iter)) (sym n.more)
    (opened_more (take c.loop-i.i places) (get_or places c.loop-i.i 0) c.args.iters.now c.loop-i.iters (get_or c.loop-i.iters (get_or places c.loop-i.i 0) c.index-iters-place.result) c.open_lone.new.iter c.loop-i.invariant.opened n.out n.there c.in_ok-here.ensures.opened) in
    (c.args.iters.now, opened)

pub returns-then-here-key-clause-sensed : goal.returns-then-here-key-clause-sensed
returns-then-here-key-clause-sensed g c =
    key_sensed c.args.way.now.plan c.args.way.now.state c.args.keys.now (take c.loop-i.i c.at_level-places.result.now) c.args.iters.now c.loop-i.iters c.args.key c.args.sense.now c.loop-i.sense c.open_lone.new.sense c.args.moves.now c.loop-i.moves c.open_lone.new.moves c.in_ok-here.here c.loop-i.invariant c.in_ok-here.ensures.sensed

pub returns-then-here-key-clause-lacks : goal.returns-then-here-key-clause-lacks
returns-then-here-key-clause-lacks g c =
    λ lacks. lacks_key c.args.way.now.plan c.args.way.now.state c.args.keys.now (take c.loop-i.i c.at_level-places.result.now) c.args.iters.now c.loop-i.iters c.args.key c.args.sense.now c.loop-i.sense c.open_lone.new.sense c.args.moves.now c.loop-i.moves c.open_lone.new.moves c.in_ok-here.here c.loop-i.invariant c.in_ok-here.ensures.sensed c.in_ok-here.ensures.reaches c.if-here-key.true

pub returns-then-here-key-clause-closed : goal.returns-then-here-key-clause-closed
returns-then-here-key-clause-closed g c =
    let places = c.at_level-places.result.now in
    let at_level = c.at_level-places.ensures in
    let same = ap (λ (w : WayView). w.plan) c.way.view_is in
    let n = next_at c.way.inside.body.now c.way.inside.plan.now c.args.way.now.plan c.args.way.now.state c.args.keys.now c.len.result c.args.iters.now c.loop-i.iters places c.loop-i.i c.index-iters-place.result c.way.invariant.0.of_body same c.len.ensures c.requires.iters
    at_level.value at_level.within at_level.rising c.loop-i.invariant.opened (omega arith) in
    let opened : AreOpened (take (c.loop-i.i + 1) places) c.args.iters.now (set c.loop-i.iters (get_or places c.loop-i.i 0) c.open_lone.new.iter) =
    subst (λ ps. AreOpened ps c.args.iters.now (set c.loop-i.iters (get_or places c.loop-i.i 0) c.open_lone.new.iter)) (sym n.more)
    (opened_more (take c.loop-i.i places) (get_or places c.loop-i.i 0) c.args.iters.now c.loop-i.iters (get_or c.loop-i.iters (get_or places c.loop-i.i 0) c.index-iters-place.result) c.open_lone.new.iter c.loop-i.invariant.opened n.out n.there c.in_ok-here.ensures.opened) in
    λ lacks. c.close.ensures c.args.iters.now opened

pub loop-i-preserved : goal.loop-i-preserved
loop-i-preserved g c =
    let places = c.at_level-places.result.now in
    let at_level = c.at_level-places.ensures in
    let same = ap (λ (w : WayView). w.plan) c.way.view_is in
    let n = next_at c.way.inside.body.now c.way.inside.plan.now c.args.way.now.plan c.args.way.now.state c.args.keys.now c.len.result c.args.iters.now c.loop-i.iters places c.loop-i.i c.index-iters-place.result c.way.invariant.0.of_body same c.len.ensures c.requires.iters
    at_level.value at_level.within at_level.rising c.loop-i.invariant.opened (omega arith) in
    let e = c.in_ok-here.ensures in
    let sensed = subst (λ here. AreSensed c.args.way.now.plan c.args.way.now.state c.args.keys.now c.loop-i.sense c.open_lone.new.sense c.args.key here c.loop-i.moves c.open_lone.new.moves) c.if-here-key.false e.sensed in
    subst (λ ps. AreAtKey c.args.way.now.plan c.args.way.now.state c.args.keys.now ps c.args.iters.now (set c.loop-i.iters (get_or places c.loop-i.i 0) c.open_lone.new.iter) c.args.key c.args.sense.now c.open_lone.new.sense c.args.moves.now c.open_lone.new.moves) (sym n.more)
    (at_key_more c.args.way.now.plan c.args.way.now.state c.args.keys.now (take c.loop-i.i places) c.args.iters.now c.loop-i.iters c.args.key c.args.sense.now c.loop-i.sense c.open_lone.new.sense c.args.moves.now c.loop-i.moves c.open_lone.new.moves (get_or places c.loop-i.i 0) (get_or c.loop-i.iters (get_or places c.loop-i.i 0) c.index-iters-place.result) c.open_lone.new.iter
    c.loop-i.invariant n.out n.there e.opened (e.stands ∙ c.if-here-key.false) (e.there c.if-here-key.false) sensed e.each c.open_lone.ensures.within)
