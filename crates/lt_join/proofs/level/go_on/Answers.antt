use Rattle.std.proofs.Common.{◌≤◌, inr, arith}
use Rattle.lt_join.proofs.MetCalls.{way_walkable, way_places, next_places, next_ring, next_first, next_ahead, next_opened, next_within, next_gone, next_ended}
use Rattle.lt_join.proofs.MetLevels.{opened_still, places_still}
use Rattle.lt_join.proofs.level.go_on.Goals as goal

pub meet_from-requires-clause-places : goal.meet_from-requires-clause-places
meet_from-requires-clause-places g c =
    let way = c.args.way.now in
    let walkable = way_walkable _ way c.way.view_is c.way.invariant.0 in
    let same = way_places _ way c.args.keys.now c.at_level-places.result.now c.len.result c.way.view_is c.at_level-places.ensures.value c.len.ensures in
    next_places way.body way.plan way.state c.args.keys.now walkable c.at_level-places.result.now same c.requires.at.0 c.args.iters.now c.args.met.key c.args.met.turn c.requires.at.1

pub meet_from-requires-clause-ring : goal.meet_from-requires-clause-ring
meet_from-requires-clause-ring g c =
    let way = c.args.way.now in
    let walkable = way_walkable _ way c.way.view_is c.way.invariant.0 in
    let same = way_places _ way c.args.keys.now c.at_level-places.result.now c.len.result c.way.view_is c.at_level-places.ensures.value c.len.ensures in
    next_ring way.body way.plan way.state c.args.keys.now walkable c.at_level-places.result.now same c.requires.at.0 c.args.iters.now c.args.met.key c.args.met.turn c.requires.at.1

pub meet_from-requires-clause-goes_on : goal.meet_from-requires-clause-goes_on
meet_from-requires-clause-goes_on g c =
    let way = c.args.way.now in
    let walkable = way_walkable _ way c.way.view_is c.way.invariant.0 in
    let same = way_places _ way c.args.keys.now c.at_level-places.result.now c.len.result c.way.view_is c.at_level-places.ensures.value c.len.ensures in
    let first = next_first way.body way.plan way.state c.args.keys.now walkable c.at_level-places.result.now same c.requires.at.0 c.args.iters.now c.args.met.key c.args.met.turn c.requires.at.1 in
    let low = c.requires.at.1.not_ended in
    λ ended. omega arith

pub meet_from-requires-clause-ahead : goal.meet_from-requires-clause-ahead
meet_from-requires-clause-ahead g c =
    let way = c.args.way.now in
    let walkable = way_walkable _ way c.way.view_is c.way.invariant.0 in
    let same = way_places _ way c.args.keys.now c.at_level-places.result.now c.len.result c.way.view_is c.at_level-places.ensures.value c.len.ensures in
    next_ahead way.body way.plan way.state c.args.keys.now walkable c.at_level-places.result.now same c.requires.at.0 c.args.iters.now c.args.met.key c.args.met.turn c.requires.at.1 c.args.to c.requires.ahead

pub returns-in_err-next-clause-within : goal.returns-in_err-next-clause-within
returns-in_err-next-clause-within g c =
    let way = c.args.way.now in
    let walkable = way_walkable _ way c.way.view_is c.way.invariant.0 in
    let same = way_places _ way c.args.keys.now c.at_level-places.result.now c.len.result c.way.view_is c.at_level-places.ensures.value c.len.ensures in
    λ level there free. next_within way.body way.plan way.state c.args.keys.now walkable c.at_level-places.result.now same c.requires.at.0 c.args.iters.now c.args.met.key c.args.met.turn c.requires.at.1 level c.args.to c.args.moves.now c.meet_from.new.moves c.requires.ahead free c.meet_from.ensures.within

pub close-requires-clause-places : goal.close-requires-clause-places
close-requires-clause-places g c =
    let way = c.args.way.now in
    let m = c.in_ok-next.ensures in
    let walkable = way_walkable _ way c.way.view_is c.way.invariant.0 in
    let same = way_places _ way c.args.keys.now c.at_level-places.result.now c.len.result c.way.view_is c.at_level-places.ensures.value c.len.ensures in
    let is = next_places way.body way.plan way.state c.args.keys.now walkable c.at_level-places.result.now same c.requires.at.0 c.args.iters.now c.args.met.key c.args.met.turn c.requires.at.1 in
    places_still c.at_level-places.result.now c.args.iters.now c.meet_from.new.iters m.still is

pub close-requires-clause-opened : goal.close-requires-clause-opened
close-requires-clause-opened g c =
    let way = c.args.way.now in
    let m = c.in_ok-next.ensures in
    let walkable = way_walkable _ way c.way.view_is c.way.invariant.0 in
    let same = way_places _ way c.args.keys.now c.at_level-places.result.now c.len.result c.way.view_is c.at_level-places.ensures.value c.len.ensures in
    let by = next_opened way.body way.plan way.state c.args.keys.now walkable c.at_level-places.result.now same c.requires.at.0 c.args.iters.now c.args.met.key c.args.met.turn c.requires.at.1 in
    (c.requires.at.0, opened_still c.at_level-places.result.now c.requires.at.0 c.args.iters.now c.meet_from.new.iters by m.still m.others)

pub returns-then-next-range-clause-gone : goal.returns-then-next-range-clause-gone
returns-then-next-range-clause-gone g c =
    let way = c.args.way.now in
    let m = c.in_ok-next.ensures in
    let walkable = way_walkable _ way c.way.view_is c.way.invariant.0 in
    let same = way_places _ way c.args.keys.now c.at_level-places.result.now c.len.result c.way.view_is c.at_level-places.ensures.value c.len.ensures in
    let over : c.args.range.hi ≤ c.in_ok-next.next.key = c.if-next-range.true in
    λ level there free above is.
    let by = next_opened way.body way.plan way.state c.args.keys.now walkable c.at_level-places.result.now same above c.args.iters.now c.args.met.key c.args.met.turn is in
    let back = c.close.ensures above (opened_still c.at_level-places.result.now above c.args.iters.now c.meet_from.new.iters by m.still m.others) in
    next_ended way.body way.plan way.state c.args.keys.now walkable c.at_level-places.result.now same above c.args.iters.now c.args.met.key c.args.met.turn is
    c.meet_from.new.iters level free c.args.to c.args.range.hi c.in_ok-next.next.key c.in_ok-next.next.turn c.args.sense.now c.meet_from.new.passing c.args.moves.now c.meet_from.new.moves c.requires.ahead c.requires.bound c.requires.tight
    (record { keys = m.keys; still = m.still; others = m.others; exact = m.exact; found = m.found; ring = m.ring; made = m.made; left = m.left; each = m.each })
    c.close.new.iters c.ended.result.key c.ended.result.turn (λ k le. c.requires.leaves k (inr (omega arith))) c.ended.ensures.key back

pub returns-then-next-range-clause-within : goal.returns-then-next-range-clause-within
returns-then-next-range-clause-within g c =
    let way = c.args.way.now in
    let walkable = way_walkable _ way c.way.view_is c.way.invariant.0 in
    let same = way_places _ way c.args.keys.now c.at_level-places.result.now c.len.result c.way.view_is c.at_level-places.ensures.value c.len.ensures in
    λ level there free. next_within way.body way.plan way.state c.args.keys.now walkable c.at_level-places.result.now same c.requires.at.0 c.args.iters.now c.args.met.key c.args.met.turn c.requires.at.1 level c.args.to c.args.moves.now c.meet_from.new.moves c.requires.ahead free c.meet_from.ensures.within

pub returns-clause-gone : goal.returns-clause-gone
returns-clause-gone g c =
    let way = c.args.way.now in
    let m = c.in_ok-next.ensures in
    let walkable = way_walkable _ way c.way.view_is c.way.invariant.0 in
    let same = way_places _ way c.args.keys.now c.at_level-places.result.now c.len.result c.way.view_is c.at_level-places.ensures.value c.len.ensures in
    λ level there free above is. next_gone way.body way.plan way.state c.args.keys.now walkable c.at_level-places.result.now same above c.args.iters.now c.args.met.key c.args.met.turn is
    c.meet_from.new.iters level free c.args.to c.args.range.hi c.in_ok-next.next.key c.in_ok-next.next.turn c.args.sense.now c.meet_from.new.passing c.args.moves.now c.meet_from.new.moves c.requires.ahead c.requires.bound c.requires.tight
    (record { keys = m.keys; still = m.still; others = m.others; exact = m.exact; found = m.found; ring = m.ring; made = m.made; left = m.left; each = m.each }) (omega arith) c.if-next-range.false

pub returns-clause-within : goal.returns-clause-within
returns-clause-within g c =
    let way = c.args.way.now in
    let walkable = way_walkable _ way c.way.view_is c.way.invariant.0 in
    let same = way_places _ way c.args.keys.now c.at_level-places.result.now c.len.result c.way.view_is c.at_level-places.ensures.value c.len.ensures in
    λ level there free. next_within way.body way.plan way.state c.args.keys.now walkable c.at_level-places.result.now same c.requires.at.0 c.args.iters.now c.args.met.key c.args.met.turn c.requires.at.1 level c.args.to c.args.moves.now c.meet_from.new.moves c.requires.ahead free c.meet_from.ensures.within
