use Rattle.std.proofs.Common.{length, map, get_or, refl, sym, ◌∙◌, arith}
use Rattle.std.proofs.Math.Seq.{map-set_same}
use Rattle.lt_leap.proofs.AtPlaces.{others_stay}
use Rattle.lt_leap.proofs.Meets.{meets-none, going, turn_in, at_turn, low, goes_on, meets-more, within_at_failure, smaller, left_at_end, found_at_end, exact_at_end, none_at_end}
use Rattle.lt_leap.proofs.Seeks.{a_next, turn_within}
use Rattle.lt_leap.proofs.Sought.{stands}
use Rattle.lt_leap.proofs.meeting.meet.Goals as goal

pub bounds-places-turn : goal.bounds-places-turn
bounds-places-turn g c = turn_within _ _ _ _ c.requires.ring

pub bounds-places-turn-in-loop-least : goal.bounds-places-turn-in-loop-least
bounds-places-turn-in-loop-least g c = turn_in _ _ _ _ _ _ _ _ _ _ _ _ _ _ c.loop-least.invariant.state

pub turn_behind-turn-requires : goal.turn_behind-turn-requires
turn_behind-turn-requires g c = turn_in _ _ _ _ _ _ _ _ _ _ _ _ _ _ c.loop-least.invariant.state

pub turn_before-before-requires : goal.turn_before-before-requires
turn_before-before-requires g c = turn_within _ _ _ _ c.requires.ring

pub offset_bounds-places-before : goal.offset_bounds-places-before
offset_bounds-places-before g c = omega (arith, c.turn_before-before.ensures.within)

pub offset_bounds-places-turn : goal.offset_bounds-places-turn
offset_bounds-places-turn g c = (let t = turn_within _ _ _ _ c.requires.ring in omega arith)

pub offset_bounds-places-turn-in-loop-least : goal.offset_bounds-places-turn-in-loop-least
offset_bounds-places-turn-in-loop-least g c = (let t = turn_in _ _ _ _ _ _ _ _ _ _ _ _ _ _ c.loop-least.invariant.state in omega arith)

pub returns-in_err-pass-clause-others : goal.returns-in_err-pass-clause-others
returns-in_err-pass-clause-others g c = λ i out.
    let inv = c.loop-least.invariant in
    let t = turn_in _ _ _ _ _ _ _ _ _ _ _ _ _ _ inv.state in
    others_stay c.loop-least.iters c.args.places.now c.loop-least.turn c.seek-gap.new.self i t out ∙ inv.others i out

pub returns-else-greatest-end-clause-exact : goal.returns-else-greatest-end-clause-exact
returns-else-greatest-end-clause-exact g c = λ b none le goes. absurd (omega arith)

pub returns-after-loop-least-clause-exact : goal.returns-after-loop-least-clause-exact
returns-after-loop-least-clause-exact g c = λ b none le goes. exact_at_end _ _ _ _ _ _ _ _ _ _ _ _ _ _ c.loop-least.invariant.state c.loop-least-test.false b none le

pub returns-else-greatest-end-clause-none : goal.returns-else-greatest-end-clause-none
returns-else-greatest-end-clause-none g c = λ b none le over. (let up = none_at_end _ _ _ _ _ _ _ _ _ _ _ _ _ _ c.loop-least.invariant.state b none le in omega arith)

pub returns-after-loop-least-clause-none : goal.returns-after-loop-least-clause-none
returns-after-loop-least-clause-none g c = λ b none le over. (let up = none_at_end _ _ _ _ _ _ _ _ _ _ _ _ _ _ c.loop-least.invariant.state b none le in omega arith)

pub returns-after-loop-least-clause-found : goal.returns-after-loop-least-clause-found
returns-after-loop-least-clause-found g c = λ goes. found_at_end _ _ _ _ _ _ _ _ _ _ _ _ _ _ c.loop-least.invariant.state c.loop-least-test.false

pub returns-else-greatest-end-clause-left : goal.returns-else-greatest-end-clause-left
returns-else-greatest-end-clause-left g c = left_at_end _ _ _ _ _ _ _ _ _ _ _ _ _ _ c.loop-least.invariant.state

pub returns-after-loop-least-clause-left : goal.returns-after-loop-least-clause-left
returns-after-loop-least-clause-left g c = left_at_end _ _ _ _ _ _ _ _ _ _ _ _ _ _ c.loop-least.invariant.state

pub returns-else-greatest-end-clause-within : goal.returns-else-greatest-end-clause-within
returns-else-greatest-end-clause-within g c = λ i lt. (let left = left_at_end _ _ _ _ _ _ _ _ _ _ _ _ _ _ c.loop-least.invariant.state i lt in omega arith)

pub returns-after-loop-least-clause-within : goal.returns-after-loop-least-clause-within
returns-after-loop-least-clause-within g c = λ i lt. (let left = left_at_end _ _ _ _ _ _ _ _ _ _ _ _ _ _ c.loop-least.invariant.state i lt in omega arith)

pub loop-least-init : goal.loop-least-init
loop-least-init g c =
    let K = g.I.KeyIter.keys in
    let H = g.I.KeyIter.here in
    let items = c.args.iters.now in
    let places = c.args.places.now in
    let r = c.requires in
    let before = c.turn_before-before in
    record {
      keys = refl;
      still = refl;
      others = λ i out. refl;
      state = meets-none _ _ _ places (map H items) c.args.turn _ _ before.result c.key-least.result c.key-greatest.result r.ring before.ensures.round before.ensures.next
          (c.key-least.ensures.value ∙ sym (stands K H items items refl places c.args.turn c.index-iters-places-2.result r.places (turn_within _ _ _ _ r.ring)))
          (c.key-greatest.ensures.value ∙ sym (stands K H items items refl places before.result c.index-iters-places.result r.places before.ensures.within))
          (omega (arith, c.key-greatest.type_inv));
    }

pub seek-gap-requires-clause-not_ended : goal.seek-gap-requires-clause-not_ended
seek-gap-requires-clause-not_ended g c = λ at_end.
    let inv = c.loop-least.invariant in
    let turn_at = turn_in _ _ _ _ _ _ _ _ _ _ _ _ _ _ inv.state in
    goes_on _ _ _ _ _ _ _ _ _ _ _ _ _ _ inv.state c.loop-least-test.true (stands g.I.KeyIter.keys g.I.KeyIter.here c.loop-least.iters c.args.iters.now inv.keys c.args.places.now c.loop-least.turn c.index-iters-place.result c.requires.places turn_at ∙ at_end)

pub seek-gap-requires-clause-ahead : goal.seek-gap-requires-clause-ahead
seek-gap-requires-clause-ahead g c =
    let inv = c.loop-least.invariant in
    let turn_at = turn_in _ _ _ _ _ _ _ _ _ _ _ _ _ _ inv.state in
    let here = stands g.I.KeyIter.keys g.I.KeyIter.here c.loop-least.iters c.args.iters.now inv.keys c.args.places.now c.loop-least.turn c.index-iters-place.result c.requires.places turn_at in
    let under = at_turn _ _ _ _ _ _ _ _ _ _ _ _ _ _ inv.state in
    omega arith

pub seek-gap-requires-clause-bound : goal.seek-gap-requires-clause-bound
seek-gap-requires-clause-bound g c = low _ _ _ _ _ _ _ _ _ _ _ _ _ _ c.loop-least.invariant.state (λ h. omega arith)

pub returns-in_err-pass-clause-keys : goal.returns-in_err-pass-clause-keys
returns-in_err-pass-clause-keys g c = map-set_same g.I.KeyIter.keys c.loop-least.iters (get_or c.args.places.now c.loop-least.turn 0) c.seek-gap.new.self _ c.seek-gap.ensures.keys ∙ c.loop-least.invariant.keys

pub returns-in_err-pass-clause-still : goal.returns-in_err-pass-clause-still
returns-in_err-pass-clause-still g c = map-set_same g.I.KeyIter.still c.loop-least.iters (get_or c.args.places.now c.loop-least.turn 0) c.seek-gap.new.self _ c.seek-gap.ensures.still ∙ c.loop-least.invariant.still

pub returns-in_err-pass-clause-within : goal.returns-in_err-pass-clause-within
returns-in_err-pass-clause-within g c =
    let S = g.I.KeyIter.still in
    let inv = c.loop-least.invariant in
    let items = c.loop-least.iters in
    let old = c.args.iters.now in
    let e = c.seek-gap.ensures in
    let next = a_next (length c.args.places.now) c.loop-least.turn in
    let w = going _ _ _ _ _ _ _ g.I.KeyIter.keys g.I.KeyIter.here S items old _ _ _ _ _ inv.state c.seek-gap.new.self c.index-iters-place.result c.seek-gap.result next.0 c.requires.places inv.keys inv.still
    c.loop-least-test.true (λ h. omega arith) e.keys e.still e.here e.lo e.hi next.1 next.2 in
    within_at_failure _ _ _ _ _ _ _ _ _ _ _ _ _ _ inv.state c.seek-gap.result _ next.0 c.seek-gap.new.moves w.seeks c.loop-least-test.true (λ h. omega arith) e.moves

pub loop-least-smaller : goal.loop-least-smaller
loop-least-smaller g c =
    let S = g.I.KeyIter.still in
    let inv = c.loop-least.invariant in
    let items = c.loop-least.iters in
    let old = c.args.iters.now in
    let e = c.seek-gap.ensures in
    let w = going _ _ _ _ _ _ _ g.I.KeyIter.keys g.I.KeyIter.here S items old _ _ _ _ _ inv.state c.seek-gap.new.self c.index-iters-place.result c.seek-gap.result c.turn_behind-turn.result c.requires.places inv.keys inv.still
    c.loop-least-test.true (λ h. omega arith) e.keys e.still e.here e.lo e.hi c.turn_behind-turn.ensures.next c.turn_behind-turn.ensures.round in
    smaller _ _ _ _ _ _ _ _ _ _ _ _ _ _ inv.state c.seek-gap.result _ c.turn_behind-turn.result _ _ w.sought.keys inv.keys w.seeks c.loop-least-test.true (λ h. omega arith)

pub loop-least-preserved : goal.loop-least-preserved
loop-least-preserved g c =
    let S = g.I.KeyIter.still in
    let inv = c.loop-least.invariant in
    let items = c.loop-least.iters in
    let old = c.args.iters.now in
    let e = c.seek-gap.ensures in
    let places = c.args.places.now in
    let turn = c.loop-least.turn in
    let next = c.turn_behind-turn.result in
    let x = c.seek-gap.new.self in
    let w = going _ _ _ _ _ _ _ g.I.KeyIter.keys g.I.KeyIter.here S items old _ _ _ _ _ inv.state c.seek-gap.new.self c.index-iters-place.result c.seek-gap.result next c.requires.places inv.keys inv.still
    c.loop-least-test.true (λ h. omega arith) e.keys e.still e.here e.lo e.hi c.turn_behind-turn.ensures.next c.turn_behind-turn.ensures.round in
    record {
      keys = w.sought.keys;
      still = w.sought.still;
      others = λ i out. others_stay items places turn x i w.seeks.turn_in out ∙ inv.others i out;
      state = meets-more _ _ _ _ _ _ _ _ _ _ _ _ _ _ inv.state c.seek-gap.result _ next c.pass.new.self c.seek-gap.new.moves c.key-least-in-loop-least.result (S x) w.seeks c.loop-least-test.true (λ h. omega arith) w.sought.at
          c.in_ok-pass.ensures e.moves (c.key-least-in-loop-least.ensures.value ∙ sym (stands g.I.KeyIter.keys g.I.KeyIter.here _ old w.sought.keys places next c.index-iters-places-in-loop-least.result c.requires.places c.turn_behind-turn.ensures.within))
          (omega (arith, c.seek-gap.type_inv));
    }
