use Rattle.std.proofs.Common.{◌≤◌, length, map, get_or, refl, ◌∙◌, arith}
use Rattle.std.proofs.lemmas.List.{length-map}
use Rattle.std.proofs.Math.Seq.{map-set_same}
use Rattle.lt_face.proofs.KeyLemmas.{least_above}
use Rattle.lt_leap.specs.Common.{common_keys}
use Rattle.lt_leap.specs.Places.{heres_at, lists_at}
use Rattle.lt_leap.proofs.AtPlaces.{here_in, each_within, others_stay}
use Rattle.lt_leap.proofs.Meets.{meets-first, meets-each, on_ok, of_ok}
use Rattle.lt_leap.proofs.Seeks.{a_next, fewer, turn_within}
use Rattle.lt_leap.proofs.Sought.{begun, stands}
use Rattle.lt_leap.proofs.meeting.meet_from.Goals as goal

pub bounds-places-turn : goal.bounds-places-turn
bounds-places-turn g c = turn_within _ _ _ _ c.requires.ring

pub offset_bounds-places-turn : goal.offset_bounds-places-turn
offset_bounds-places-turn g c = (let t = turn_within _ _ _ _ c.requires.ring in omega arith)

pub seek-gap-requires-clause-not_ended : goal.seek-gap-requires-clause-not_ended
seek-gap-requires-clause-not_ended g c = λ at_end.
    let r = c.requires in
    let turn_at = turn_within _ _ _ _ r.ring in
    r.goes_on (here_in (map g.I.KeyIter.here c.args.iters.now) c.args.places.now c.args.turn turn_at ∙ stands g.I.KeyIter.keys g.I.KeyIter.here c.args.iters.now c.args.iters.now refl c.args.places.now c.args.turn c.index-iters-place.result r.places turn_at ∙ at_end)

pub seek-gap-requires-clause-ahead : goal.seek-gap-requires-clause-ahead
seek-gap-requires-clause-ahead g c =
    let heres = map g.I.KeyIter.here c.args.iters.now in
    let places = c.args.places.now in
    let turn_at = turn_within _ _ _ _ c.requires.ring in
    let long = length-map places (λ place. get_or heres place 0) in
    let below = each_within (λ here. here ≤ c.args.to) (heres_at heres places) c.args.turn c.requires.ahead (omega arith) in
    let here = here_in heres places c.args.turn turn_at in
    let is = stands g.I.KeyIter.keys g.I.KeyIter.here c.args.iters.now c.args.iters.now refl places c.args.turn c.index-iters-place.result c.requires.places turn_at in
    omega arith

pub returns-in_err-pass-clause-keys : goal.returns-in_err-pass-clause-keys
returns-in_err-pass-clause-keys g c = map-set_same g.I.KeyIter.keys c.args.iters.now (get_or c.args.places.now c.args.turn 0) c.seek-gap.new.self _ c.seek-gap.ensures.keys

pub returns-in_err-pass-clause-still : goal.returns-in_err-pass-clause-still
returns-in_err-pass-clause-still g c = map-set_same g.I.KeyIter.still c.args.iters.now (get_or c.args.places.now c.args.turn 0) c.seek-gap.new.self _ c.seek-gap.ensures.still

pub returns-in_err-pass-clause-others : goal.returns-in_err-pass-clause-others
returns-in_err-pass-clause-others g c = λ i out. others_stay c.args.iters.now c.args.places.now c.args.turn c.seek-gap.new.self i (turn_within _ _ _ _ c.requires.ring) out

pub returns-clause-keys : goal.returns-clause-keys
returns-clause-keys g c = c.meet.ensures.keys ∙ map-set_same g.I.KeyIter.keys c.args.iters.now (get_or c.args.places.now c.args.turn 0) c.seek-gap.new.self _ c.seek-gap.ensures.keys

pub returns-clause-still : goal.returns-clause-still
returns-clause-still g c = c.meet.ensures.still ∙ map-set_same g.I.KeyIter.still c.args.iters.now (get_or c.args.places.now c.args.turn 0) c.seek-gap.new.self _ c.seek-gap.ensures.still

pub returns-clause-others : goal.returns-clause-others
returns-clause-others g c = λ i out. c.meet.ensures.others i out ∙ others_stay c.args.iters.now c.args.places.now c.args.turn c.seek-gap.new.self i (turn_within _ _ _ _ c.requires.ring) out

pub meet-requires-clause-ring : goal.meet-requires-clause-ring
meet-requires-clause-ring g c =
    let r = c.requires in
    let e = c.seek-gap.ensures in
    let b = begun g.I.KeyIter.keys g.I.KeyIter.here g.I.KeyIter.still c.args.iters.now c.args.places.now c.args.turn c.args.to c.seek-gap.new.self c.index-iters-place.result c.seek-gap.result c.turn_behind.result
    r.places r.ring r.goes_on r.ahead r.bound e.keys e.still e.here e.lo e.hi c.turn_behind.ensures.next c.turn_behind.ensures.round in
    rw b.sought.keys b.seeks.after.is_ring

pub returns-clause-exact : goal.returns-clause-exact
returns-clause-exact g c =
    let r = c.requires in
    let e = c.seek-gap.ensures in
    let b = begun g.I.KeyIter.keys g.I.KeyIter.here g.I.KeyIter.still c.args.iters.now c.args.places.now c.args.turn c.args.to c.seek-gap.new.self c.index-iters-place.result c.seek-gap.result c.turn_behind.result
    r.places r.ring r.goes_on r.ahead r.bound e.keys e.still e.here e.lo e.hi c.turn_behind.ensures.next c.turn_behind.ensures.round in
    on_ok c.meet.result c.meet.ensures.exact (λ met is exact. (rw b.sought.keys at exact) c.args.to b.seeks.after.none b.seeks.after.up)

pub returns-clause-none : goal.returns-clause-none
returns-clause-none g c =
    let r = c.requires in
    let e = c.seek-gap.ensures in
    let b = begun g.I.KeyIter.keys g.I.KeyIter.here g.I.KeyIter.still c.args.iters.now c.args.places.now c.args.turn c.args.to c.seek-gap.new.self c.index-iters-place.result c.seek-gap.result c.turn_behind.result
    r.places r.ring r.goes_on r.ahead r.bound e.keys e.still e.here e.lo e.hi c.turn_behind.ensures.next c.turn_behind.ensures.round in
    on_ok c.meet.result c.meet.ensures.none (λ met is none. (rw b.sought.keys at none) c.args.to b.seeks.after.none b.seeks.after.up)

pub returns-clause-ring : goal.returns-clause-ring
returns-clause-ring g c =
    let r = c.requires in
    let e = c.seek-gap.ensures in
    let b = begun g.I.KeyIter.keys g.I.KeyIter.here g.I.KeyIter.still c.args.iters.now c.args.places.now c.args.turn c.args.to c.seek-gap.new.self c.index-iters-place.result c.seek-gap.result c.turn_behind.result
    r.places r.ring r.goes_on r.ahead r.bound e.keys e.still e.here e.lo e.hi c.turn_behind.ensures.next c.turn_behind.ensures.round in
    on_ok c.meet.result c.meet.ensures.ring (λ met is ring. rw b.sought.keys at ring)

pub returns-clause-made : goal.returns-clause-made
returns-clause-made g c =
    let r = c.requires in
    let e = c.seek-gap.ensures in
    let b = begun g.I.KeyIter.keys g.I.KeyIter.here g.I.KeyIter.still c.args.iters.now c.args.places.now c.args.turn c.args.to c.seek-gap.new.self c.index-iters-place.result c.seek-gap.result c.turn_behind.result
    r.places r.ring r.goes_on r.ahead r.bound e.keys e.still e.here e.lo e.hi c.turn_behind.ensures.next c.turn_behind.ensures.round in
    on_ok c.meet.result c.meet.ensures.made (λ met is made. meets-first _ _ _ _ _ _ _ _ _ _ _ _ _ _ _ _ _ _ _ _ _ b.seeks b.sought.still b.sought.keys b.sought.at c.in_ok-pass.ensures e.moves made)

pub returns-clause-left : goal.returns-clause-left
returns-clause-left g c =
    let r = c.requires in
    let e = c.seek-gap.ensures in
    let b = begun g.I.KeyIter.keys g.I.KeyIter.here g.I.KeyIter.still c.args.iters.now c.args.places.now c.args.turn c.args.to c.seek-gap.new.self c.index-iters-place.result c.seek-gap.result c.turn_behind.result
    r.places r.ring r.goes_on r.ahead r.bound e.keys e.still e.here e.lo e.hi c.turn_behind.ensures.next c.turn_behind.ensures.round in
    on_ok c.meet.result c.meet.ensures.left (λ met is left rose i lt.
    let less = fewer _ _ _ _ _ _ _ _ b.seeks rose i lt in
    let more = rw b.sought.keys at left i lt in
    omega (arith, e.moves))

pub returns-clause-each : goal.returns-clause-each
returns-clause-each g c =
    let r = c.requires in
    let e = c.seek-gap.ensures in
    let b = begun g.I.KeyIter.keys g.I.KeyIter.here g.I.KeyIter.still c.args.iters.now c.args.places.now c.args.turn c.args.to c.seek-gap.new.self c.index-iters-place.result c.seek-gap.result c.turn_behind.result
    r.places r.ring r.goes_on r.ahead r.bound e.keys e.still e.here e.lo e.hi c.turn_behind.ensures.next c.turn_behind.ensures.round in
    on_ok c.meet.result c.meet.ensures.made (λ met is after goes below.
    let made = meets-first _ _ _ _ _ _ _ _ _ _ _ _ _ _ _ _ _ _ _ _ _ b.seeks b.sought.still b.sought.keys b.sought.at c.in_ok-pass.ensures e.moves after in
    let exact = (of_ok _ c.meet.result met is (rw b.sought.keys at c.meet.ensures.exact)) c.args.to b.seeks.after.none b.seeks.after.up goes in
    let up = least_above (common_keys (lists_at (map g.I.KeyIter.keys c.args.iters.now) c.args.places.now)) c.args.to (omega (arith, r.bound)) in
    let moved = meets-each c.args.places.now _ _ _ made.moves c.args.to met.key r.places.distinct made.leads (omega arith) (of_ok _ c.meet.result met is c.meet.ensures.found goes) below in
    omega (arith, made.counted))

pub returns-clause-within : goal.returns-clause-within
returns-clause-within g c = λ rose i lt.
    let r = c.requires in
    let e = c.seek-gap.ensures in
    let b = begun g.I.KeyIter.keys g.I.KeyIter.here g.I.KeyIter.still c.args.iters.now c.args.places.now c.args.turn c.args.to c.seek-gap.new.self c.index-iters-place.result c.seek-gap.result c.turn_behind.result
    r.places r.ring r.goes_on r.ahead r.bound e.keys e.still e.here e.lo e.hi c.turn_behind.ensures.next c.turn_behind.ensures.round in
    let less = fewer _ _ _ _ _ _ _ _ b.seeks rose i lt in
    let more = rw b.sought.keys at c.meet.ensures.within i lt in
    omega (arith, e.moves)

pub returns-in_err-pass-clause-within : goal.returns-in_err-pass-clause-within
returns-in_err-pass-clause-within g c = λ rose i lt.
    let next = a_next (length c.args.places.now) c.args.turn in
    let r = c.requires in
    let e = c.seek-gap.ensures in
    let b = begun g.I.KeyIter.keys g.I.KeyIter.here g.I.KeyIter.still c.args.iters.now c.args.places.now c.args.turn c.args.to c.seek-gap.new.self c.index-iters-place.result c.seek-gap.result next.0
    r.places r.ring r.goes_on r.ahead r.bound e.keys e.still e.here e.lo e.hi next.1 next.2 in
    let less = fewer _ _ _ _ _ _ _ _ b.seeks rose i lt in
    omega (arith, e.moves)
