use Rattle.std.proofs.Common.{◌≡◌, ◌+◌, ◌++◌, [], ◌∷◌, length, sym, ap, subst, arith, get_or, set, take, length-set}
use Rattle.std.proofs.lemmas.List.{get_or-set_same}
use Rattle.lt_join.specs.AtomIter.{AtomView, atom_still}
use Rattle.lt_join.specs.Level.{AreOpened, AreSensed}
use Rattle.lt_join.specs.Told.{TakesGap}
use Rattle.lt_join.specs.Way.{WayView}
use Rattle.lt_leap.specs.Places.{ArePlaces}
use Rattle.lt_join.proofs.Opened.{place_within, places_taken, level_places, next_at, opened_more, holder_above_last}
use Rattle.lt_join.proofs.Rising.{HasRisen, risen_none, risen_sensed, risen_more, risen_closed}
use Rattle.lt_join.proofs.level.open_rising.Goals as goal

pub loop-i-init : goal.loop-i-init
loop-i-init g c =
    risen_none c.args.way.now.plan c.args.way.now.state c.args.keys.now c.args.iters.now c.args.from c.args.sense.now c.args.moves.now (omega (arith, c.ranges.from.fits)) c.requires.tight

pub offset_bounds-iters-place : goal.offset_bounds-iters-place
offset_bounds-iters-place g c =
    let places = c.at_level-places.result.now in
    let at_level = c.at_level-places.ensures in
    let same = ap (λ (w : WayView). w.plan) c.way.view_is in
    let are = level_places c.way.inside.plan.now c.args.way.now.plan c.args.way.now.state c.args.keys.now places (take c.loop-i.i places) c.args.iters.now c.loop-i.iters same c.requires.iters at_level.within at_level.rising c.loop-i.invariant.opened in
    let within = place_within places (length c.loop-i.iters) c.loop-i.i are.within (omega arith) in
    omega arith

pub offset_bounds-iters-place-in-loop-i : goal.offset_bounds-iters-place-in-loop-i
offset_bounds-iters-place-in-loop-i g c =
    let places = c.at_level-places.result.now in
    let at_level = c.at_level-places.ensures in
    let same = ap (λ (w : WayView). w.plan) c.way.view_is in
    let are = level_places c.way.inside.plan.now c.args.way.now.plan c.args.way.now.state c.args.keys.now places (take c.loop-i.i places) c.args.iters.now c.loop-i.iters same c.requires.iters at_level.within at_level.rising c.loop-i.invariant.opened in
    let within = place_within places (length c.loop-i.iters) c.loop-i.i are.within (omega arith) in
    omega arith

pub bounds-iters-place : goal.bounds-iters-place
bounds-iters-place g c =
    let places = c.at_level-places.result.now in
    let at_level = c.at_level-places.ensures in
    let same = ap (λ (w : WayView). w.plan) c.way.view_is in
    let are = level_places c.way.inside.plan.now c.args.way.now.plan c.args.way.now.state c.args.keys.now places (take c.loop-i.i places) c.args.iters.now c.loop-i.iters same c.requires.iters at_level.within at_level.rising c.loop-i.invariant.opened in
    let within = place_within places (length c.loop-i.iters) c.loop-i.i are.within (omega arith) in
    within

pub bounds-iters-place-in-loop-i : goal.bounds-iters-place-in-loop-i
bounds-iters-place-in-loop-i g c =
    let places = c.at_level-places.result.now in
    let at_level = c.at_level-places.ensures in
    let same = ap (λ (w : WayView). w.plan) c.way.view_is in
    let are = level_places c.way.inside.plan.now c.args.way.now.plan c.args.way.now.state c.args.keys.now places (take c.loop-i.i places) c.args.iters.now c.loop-i.iters same c.requires.iters at_level.within at_level.rising c.loop-i.invariant.opened in
    let within = place_within places (length c.loop-i.iters) c.loop-i.i are.within (omega arith) in
    (let long = length-set c.loop-i.iters (get_or places c.loop-i.i 0) c.open_at-gap.new.self in omega (arith, long, within))

pub open_at-gap-requires-clause-above_last : goal.open_at-gap-requires-clause-above_last
open_at-gap-requires-clause-above_last g c =
    let places = c.at_level-places.result.now in
    let at_level = c.at_level-places.ensures in
    let same = ap (λ (w : WayView). w.plan) c.way.view_is in
    let n = next_at c.way.inside.body.now c.way.inside.plan.now c.args.way.now.plan c.args.way.now.state c.args.keys.now c.len.result c.args.iters.now c.loop-i.iters places c.loop-i.i c.index-iters-place.result c.way.invariant.0.of_body same c.len.ensures c.requires.iters
    at_level.value at_level.within at_level.rising c.loop-i.invariant.opened (omega arith) in
    holder_above_last c.args.way.now.plan c.args.way.now.state c.args.keys.now (get_or c.loop-i.iters (get_or places c.loop-i.i 0) c.index-iters-place.result) n.holds

pub open_at-gap-requires-clause-at_key : goal.open_at-gap-requires-clause-at_key
open_at-gap-requires-clause-at_key g c =
    let places = c.at_level-places.result.now in
    let at_level = c.at_level-places.ensures in
    let same = ap (λ (w : WayView). w.plan) c.way.view_is in
    let n = next_at c.way.inside.body.now c.way.inside.plan.now c.args.way.now.plan c.args.way.now.state c.args.keys.now c.len.result c.args.iters.now c.loop-i.iters places c.loop-i.i c.index-iters-place.result c.way.invariant.0.of_body same c.len.ensures c.requires.iters
    at_level.value at_level.within at_level.rising c.loop-i.invariant.opened (omega arith) in
    n.holds.is_trie.at_key

pub close-requires-clause-places : goal.close-requires-clause-places
close-requires-clause-places g c =
    let places = c.at_level-places.result.now in
    let at_level = c.at_level-places.ensures in
    let same = ap (λ (w : WayView). w.plan) c.way.view_is in
    let are = level_places c.way.inside.plan.now c.args.way.now.plan c.args.way.now.state c.args.keys.now places (take c.loop-i.i places) c.args.iters.now c.loop-i.iters same c.requires.iters at_level.within at_level.rising c.loop-i.invariant.opened in
    subst (ArePlaces (take (c.loop-i.i + 1) places)) (sym (length-set c.loop-i.iters (get_or places c.loop-i.i 0) c.open_at-gap.new.self)) (places_taken places (length c.loop-i.iters) (c.loop-i.i + 1) are)

pub close-requires-clause-opened : goal.close-requires-clause-opened
close-requires-clause-opened g c =
    let places = c.at_level-places.result.now in
    let at_level = c.at_level-places.ensures in
    let same = ap (λ (w : WayView). w.plan) c.way.view_is in
    let n = next_at c.way.inside.body.now c.way.inside.plan.now c.args.way.now.plan c.args.way.now.state c.args.keys.now c.len.result c.args.iters.now c.loop-i.iters places c.loop-i.i c.index-iters-place.result c.way.invariant.0.of_body same c.len.ensures c.requires.iters
    at_level.value at_level.within at_level.rising c.loop-i.invariant.opened (omega arith) in
    let opened : AreOpened (take (c.loop-i.i + 1) places) c.args.iters.now (set c.loop-i.iters (get_or places c.loop-i.i 0) c.open_at-gap.new.self) =
    subst (λ ps. AreOpened ps c.args.iters.now (set c.loop-i.iters (get_or places c.loop-i.i 0) c.open_at-gap.new.self)) (sym n.more)
    (opened_more (take c.loop-i.i places) (get_or places c.loop-i.i 0) c.args.iters.now c.loop-i.iters (get_or c.loop-i.iters (get_or places c.loop-i.i 0) c.index-iters-place.result) c.open_at-gap.new.self c.loop-i.invariant.opened n.out n.there c.open_at-gap.ensures.opened) in
    (c.args.iters.now, opened)

pub returns-then-key-clause-sensed : goal.returns-then-key-clause-sensed
returns-then-key-clause-sensed g c =
    let places = c.at_level-places.result.now in
    let at_level = c.at_level-places.ensures in
    let same = ap (λ (w : WayView). w.plan) c.way.view_is in
    let n = next_at c.way.inside.body.now c.way.inside.plan.now c.args.way.now.plan c.args.way.now.state c.args.keys.now c.len.result c.args.iters.now c.loop-i.iters places c.loop-i.i c.index-iters-place.result c.way.invariant.0.of_body same c.len.ensures c.requires.iters
    at_level.value at_level.within at_level.rising c.loop-i.invariant.opened (omega arith) in
    let are = level_places c.way.inside.plan.now c.args.way.now.plan c.args.way.now.state c.args.keys.now places (take c.loop-i.i places) c.args.iters.now c.loop-i.iters same c.requires.iters at_level.within at_level.rising c.loop-i.invariant.opened in
    let within = place_within places (length c.loop-i.iters) c.loop-i.i are.within (omega arith) in
    let passed : get_or (set c.loop-i.iters (get_or places c.loop-i.i 0) c.open_at-gap.new.self) (get_or places c.loop-i.i 0) c.index-iters-place-in-loop-i.result ≡ c.open_at-gap.new.self =
    get_or-set_same c.loop-i.iters (get_or places c.loop-i.i 0) c.open_at-gap.new.self c.index-iters-place-in-loop-i.result within in
    let takes : TakesGap c.loop-i.sense (get_or places c.loop-i.i 0) (atom_still c.open_at-gap.new.self) c.open_at-gap.result c.pass.new.self =
    subst (λ (a : AtomView). TakesGap c.loop-i.sense (get_or places c.loop-i.i 0) (atom_still a) c.open_at-gap.result c.pass.new.self) passed c.in_ok-pass.ensures in
    let e = c.open_at-gap.ensures in
    let sensed = risen_sensed c.args.way.now.plan c.args.way.now.state c.args.keys.now (take c.loop-i.i places) c.args.iters.now c.loop-i.iters c.args.from c.loop-i.key c.args.sense.now c.loop-i.sense c.pass.new.self c.args.moves.now c.loop-i.moves (get_or places c.loop-i.i 0) (get_or c.loop-i.iters (get_or places c.loop-i.i 0) c.index-iters-place.result) c.open_at-gap.new.self c.open_at-gap.result
    c.loop-i.invariant n.holds e.opened e.here e.lo e.hi takes in
    subst (λ key. AreSensed c.args.way.now.plan c.args.way.now.state c.args.keys.now c.args.sense.now c.pass.new.self c.args.from key c.args.moves.now c.open_at-gap.new.moves) c.if-key.true
    (subst (λ now. AreSensed c.args.way.now.plan c.args.way.now.state c.args.keys.now c.args.sense.now c.pass.new.self c.args.from c.open_at-gap.result.hi c.args.moves.now now) (sym e.moves) sensed)

pub returns-then-key-clause-closed : goal.returns-then-key-clause-closed
returns-then-key-clause-closed g c =
    let places = c.at_level-places.result.now in
    let at_level = c.at_level-places.ensures in
    let same = ap (λ (w : WayView). w.plan) c.way.view_is in
    let n = next_at c.way.inside.body.now c.way.inside.plan.now c.args.way.now.plan c.args.way.now.state c.args.keys.now c.len.result c.args.iters.now c.loop-i.iters places c.loop-i.i c.index-iters-place.result c.way.invariant.0.of_body same c.len.ensures c.requires.iters
    at_level.value at_level.within at_level.rising c.loop-i.invariant.opened (omega arith) in
    let opened : AreOpened (take (c.loop-i.i + 1) places) c.args.iters.now (set c.loop-i.iters (get_or places c.loop-i.i 0) c.open_at-gap.new.self) =
    subst (λ ps. AreOpened ps c.args.iters.now (set c.loop-i.iters (get_or places c.loop-i.i 0) c.open_at-gap.new.self)) (sym n.more)
    (opened_more (take c.loop-i.i places) (get_or places c.loop-i.i 0) c.args.iters.now c.loop-i.iters (get_or c.loop-i.iters (get_or places c.loop-i.i 0) c.index-iters-place.result) c.open_at-gap.new.self c.loop-i.invariant.opened n.out n.there c.open_at-gap.ensures.opened) in
    λ ended. c.close.ensures c.args.iters.now opened

pub loop-i-preserved : goal.loop-i-preserved
loop-i-preserved g c =
    let places = c.at_level-places.result.now in
    let at_level = c.at_level-places.ensures in
    let same = ap (λ (w : WayView). w.plan) c.way.view_is in
    let n = next_at c.way.inside.body.now c.way.inside.plan.now c.args.way.now.plan c.args.way.now.state c.args.keys.now c.len.result c.args.iters.now c.loop-i.iters places c.loop-i.i c.index-iters-place.result c.way.invariant.0.of_body same c.len.ensures c.requires.iters
    at_level.value at_level.within at_level.rising c.loop-i.invariant.opened (omega arith) in
    let are = level_places c.way.inside.plan.now c.args.way.now.plan c.args.way.now.state c.args.keys.now places (take c.loop-i.i places) c.args.iters.now c.loop-i.iters same c.requires.iters at_level.within at_level.rising c.loop-i.invariant.opened in
    let within = place_within places (length c.loop-i.iters) c.loop-i.i are.within (omega arith) in
    let passed : get_or (set c.loop-i.iters (get_or places c.loop-i.i 0) c.open_at-gap.new.self) (get_or places c.loop-i.i 0) c.index-iters-place-in-loop-i.result ≡ c.open_at-gap.new.self =
    get_or-set_same c.loop-i.iters (get_or places c.loop-i.i 0) c.open_at-gap.new.self c.index-iters-place-in-loop-i.result within in
    let takes : TakesGap c.loop-i.sense (get_or places c.loop-i.i 0) (atom_still c.open_at-gap.new.self) c.open_at-gap.result c.pass.new.self =
    subst (λ (a : AtomView). TakesGap c.loop-i.sense (get_or places c.loop-i.i 0) (atom_still a) c.open_at-gap.result c.pass.new.self) passed c.in_ok-pass.ensures in
    let e = c.open_at-gap.ensures in
    let risen = risen_more c.args.way.now.plan c.args.way.now.state c.args.keys.now (take c.loop-i.i places) c.args.iters.now c.loop-i.iters c.args.from c.loop-i.key c.args.sense.now c.loop-i.sense c.pass.new.self c.args.moves.now c.loop-i.moves (get_or places c.loop-i.i 0) (get_or c.loop-i.iters (get_or places c.loop-i.i 0) c.index-iters-place.result) c.open_at-gap.new.self c.open_at-gap.result
    c.loop-i.invariant n.out n.there n.holds e.opened e.here e.lo e.hi takes c.if-key.false in
    subst (λ ps. HasRisen c.args.way.now.plan c.args.way.now.state c.args.keys.now ps c.args.iters.now (set c.loop-i.iters (get_or places c.loop-i.i 0) c.open_at-gap.new.self) c.args.from c.open_at-gap.result.hi c.args.sense.now c.pass.new.self c.args.moves.now c.open_at-gap.new.moves) (sym n.more)
    (subst (λ now. HasRisen c.args.way.now.plan c.args.way.now.state c.args.keys.now (take c.loop-i.i places ++ get_or places c.loop-i.i 0 ∷ []) c.args.iters.now (set c.loop-i.iters (get_or places c.loop-i.i 0) c.open_at-gap.new.self) c.args.from c.open_at-gap.result.hi c.args.sense.now c.pass.new.self c.args.moves.now now) (sym e.moves) risen)

pub returns-clause-closed : goal.returns-clause-closed
returns-clause-closed g c =
    λ ended. risen_closed c.args.way.now.plan c.args.way.now.state c.args.keys.now (take c.loop-i.i c.at_level-places.result.now) c.args.iters.now c.loop-i.iters c.args.from c.loop-i.key c.args.sense.now c.loop-i.sense c.args.moves.now c.loop-i.moves c.loop-i.invariant ended
