use Rattle.std.proofs.Common.{ℕ, List, ◌<◌, ◌≤◌, sym, subst, inl, inr, arith}
use Rattle.lt_join.specs.Level.{AreOpened}
use Rattle.lt_join.proofs.MetCalls.{way_walkable, way_places, are_places, joined_ring, joined_within, joined_gone, joined_ended, rising_ended, opens_within, begin_low, begin_before}
use Rattle.lt_join.proofs.MetLevels.{IsOut, opened_still, places_still, gone_from}
use Rattle.lt_join.proofs.level.open_joined.Goals as goal

pub returns-in_err-greatest-clause-within : goal.returns-in_err-greatest-clause-within
returns-in_err-greatest-clause-within g c =
    let way = c.args.way.now in
    let walkable = way_walkable _ way c.way.view_is c.way.invariant.0 in
    let same = way_places _ way c.args.keys.now c.at_level-places.result.now c.len.result c.way.view_is c.at_level-places.ensures.value c.len.ensures in
    λ level free. opens_within way.body way.plan way.state c.args.keys.now walkable c.at_level-places.result.now same level c.args.moves.now c.open_rising.new.moves c.open_rising.ensures.within

pub returns-then-greatest-clause-gone : goal.returns-then-greatest-clause-gone
returns-then-greatest-clause-gone g c =
    let way = c.args.way.now in
    let e = c.in_ok-greatest.ensures in
    let walkable = way_walkable _ way c.way.view_is c.way.invariant.0 in
    let same = way_places _ way c.args.keys.now c.at_level-places.result.now c.len.result c.way.view_is c.at_level-places.ensures.value c.len.ensures in
    let begin = c.later-begin.result in
    let low = begin_low c.args.from c.args.range.lo c.opens_at.result begin c.requires.bound c.requires.low c.opens_at.ensures c.later-begin.ensures.one in
    let before : (k : ℕ) → c.args.from ≤ k → k < begin → IsOut way.body way.plan c.args.keys.now k = λ k le lt. c.requires.leaves k (inl (begin_before c.args.from c.args.range.lo c.opens_at.result begin k c.opens_at.ensures c.later-begin.ensures.one le lt)) in
    λ level free. gone_from way.body way.plan way.state c.args.keys.now walkable level c.args.sense.now c.open_rising.new.sense c.args.iters.now c.open_rising.new.iters c.args.from begin _ c.args.moves.now c.open_rising.new.moves c.ended.result.key c.ended.result.turn
    c.later-begin.ensures.first before
    (rising_ended way.body way.plan way.state c.args.keys.now walkable c.at_level-places.result.now same level c.args.sense.now c.open_rising.new.sense c.args.iters.now c.open_rising.new.iters begin c.in_ok-greatest.greatest
    c.args.moves.now c.open_rising.new.moves c.ended.result.key c.ended.result.turn e.sensed c.if-greatest.true c.ended.ensures.key (e.closed c.if-greatest.true) low c.open_rising.ensures.within)

pub returns-then-greatest-clause-within : goal.returns-then-greatest-clause-within
returns-then-greatest-clause-within g c =
    let way = c.args.way.now in
    let walkable = way_walkable _ way c.way.view_is c.way.invariant.0 in
    let same = way_places _ way c.args.keys.now c.at_level-places.result.now c.len.result c.way.view_is c.at_level-places.ensures.value c.len.ensures in
    λ level free. opens_within way.body way.plan way.state c.args.keys.now walkable c.at_level-places.result.now same level c.args.moves.now c.open_rising.new.moves c.open_rising.ensures.within

pub meet-requires-clause-places : goal.meet-requires-clause-places
meet-requires-clause-places g c =
    let way = c.args.way.now in
    let e = c.in_ok-greatest.ensures in
    let walkable = way_walkable _ way c.way.view_is c.way.invariant.0 in
    let same = way_places _ way c.args.keys.now c.at_level-places.result.now c.len.result c.way.view_is c.at_level-places.ensures.value c.len.ensures in
    are_places way.body way.plan way.state c.args.keys.now walkable c.at_level-places.result.now same c.args.iters.now c.open_rising.new.iters c.later-begin.result c.requires.iters (e.opened c.if-greatest.false)

pub meet-requires-clause-ring : goal.meet-requires-clause-ring
meet-requires-clause-ring g c =
    let way = c.args.way.now in
    let e = c.in_ok-greatest.ensures in
    let walkable = way_walkable _ way c.way.view_is c.way.invariant.0 in
    let same = way_places _ way c.args.keys.now c.at_level-places.result.now c.len.result c.way.view_is c.at_level-places.ensures.value c.len.ensures in
    joined_ring way.body way.plan way.state c.args.keys.now walkable c.at_level-places.result.now same c.args.iters.now c.open_rising.new.iters c.later-begin.result c.requires.iters (e.opened c.if-greatest.false) (e.rising c.if-greatest.false) c.requires.held

pub returns-in_err-met-clause-within : goal.returns-in_err-met-clause-within
returns-in_err-met-clause-within g c =
    let way = c.args.way.now in
    let e = c.in_ok-greatest.ensures in
    let walkable = way_walkable _ way c.way.view_is c.way.invariant.0 in
    let same = way_places _ way c.args.keys.now c.at_level-places.result.now c.len.result c.way.view_is c.at_level-places.ensures.value c.len.ensures in
    λ level free. joined_within way.body way.plan way.state c.args.keys.now walkable c.at_level-places.result.now same c.args.iters.now c.open_rising.new.iters c.later-begin.result c.requires.iters (e.opened c.if-greatest.false)
    level c.args.moves.now c.open_rising.new.moves c.meet.new.moves free c.requires.held (e.each c.if-greatest.false) c.meet.ensures.within

pub close-requires-clause-places : goal.close-requires-clause-places
close-requires-clause-places g c =
    let way = c.args.way.now in
    let walkable = way_walkable _ way c.way.view_is c.way.invariant.0 in
    let same = way_places _ way c.args.keys.now c.at_level-places.result.now c.len.result c.way.view_is c.at_level-places.ensures.value c.len.ensures in
    let is = are_places way.body way.plan way.state c.args.keys.now walkable c.at_level-places.result.now same c.args.iters.now c.open_rising.new.iters c.later-begin.result c.requires.iters (c.in_ok-greatest.ensures.opened c.if-greatest.false) in
    places_still c.at_level-places.result.now c.open_rising.new.iters c.meet.new.iters c.in_ok-met.ensures.still is

pub close-requires-clause-opened : goal.close-requires-clause-opened
close-requires-clause-opened g c =
    let way = c.args.way.now in
    let e = c.in_ok-greatest.ensures in
    let m = c.in_ok-met.ensures in
    let same = way_places _ way c.args.keys.now c.at_level-places.result.now c.len.result c.way.view_is c.at_level-places.ensures.value c.len.ensures in
    let by = subst (λ (ps : List ℕ). AreOpened ps c.args.iters.now c.open_rising.new.iters) (sym same) (e.opened c.if-greatest.false) in
    (c.args.iters.now, opened_still c.at_level-places.result.now c.args.iters.now c.open_rising.new.iters c.meet.new.iters by m.still m.others)

pub returns-then-met-range-clause-gone : goal.returns-then-met-range-clause-gone
returns-then-met-range-clause-gone g c =
    let way = c.args.way.now in
    let e = c.in_ok-greatest.ensures in
    let m = c.in_ok-met.ensures in
    let walkable = way_walkable _ way c.way.view_is c.way.invariant.0 in
    let same = way_places _ way c.args.keys.now c.at_level-places.result.now c.len.result c.way.view_is c.at_level-places.ensures.value c.len.ensures in
    let begin = c.later-begin.result in
    let low = begin_low c.args.from c.args.range.lo c.opens_at.result begin c.requires.bound c.requires.low c.opens_at.ensures c.later-begin.ensures.one in
    let before : (k : ℕ) → c.args.from ≤ k → k < begin → IsOut way.body way.plan c.args.keys.now k = λ k le lt. c.requires.leaves k (inl (begin_before c.args.from c.args.range.lo c.opens_at.result begin k c.opens_at.ensures c.later-begin.ensures.one le lt)) in
    let opened = e.opened c.if-greatest.false in
    let by = subst (λ (ps : List ℕ). AreOpened ps c.args.iters.now c.open_rising.new.iters) (sym same) opened in
    let back = c.close.ensures c.args.iters.now (opened_still c.at_level-places.result.now c.args.iters.now c.open_rising.new.iters c.meet.new.iters by m.still m.others) in
    let over : c.args.range.hi ≤ c.in_ok-met.met.key = c.if-met-range.true in
    λ level free. gone_from way.body way.plan way.state c.args.keys.now walkable level c.args.sense.now c.meet.new.passing c.args.iters.now c.close.new.iters c.args.from begin _ c.args.moves.now c.meet.new.moves c.ended-then-met-range.result.key c.ended-then-met-range.result.turn
    c.later-begin.ensures.first before
    (joined_ended way.body way.plan way.state c.args.keys.now walkable c.at_level-places.result.now same c.args.iters.now c.open_rising.new.iters begin c.requires.iters opened
    c.meet.new.iters level free c.in_ok-greatest.greatest c.args.range.hi c.in_ok-met.met.key c.in_ok-met.met.turn c.args.sense.now c.open_rising.new.sense c.meet.new.passing c.args.moves.now c.open_rising.new.moves c.meet.new.moves
    c.requires.held low e.sensed (e.rising c.if-greatest.false) (e.last c.if-greatest.false) (e.each c.if-greatest.false)
    (record { keys = m.keys; still = m.still; others = m.others; exact = m.exact; found = m.found; ring = m.ring; made = m.made; left = m.left })
    c.close.new.iters c.ended-then-met-range.result.key c.ended-then-met-range.result.turn (λ k le. c.requires.leaves k (inr (omega arith))) c.ended-then-met-range.ensures.key back)

pub returns-then-met-range-clause-within : goal.returns-then-met-range-clause-within
returns-then-met-range-clause-within g c =
    let way = c.args.way.now in
    let e = c.in_ok-greatest.ensures in
    let walkable = way_walkable _ way c.way.view_is c.way.invariant.0 in
    let same = way_places _ way c.args.keys.now c.at_level-places.result.now c.len.result c.way.view_is c.at_level-places.ensures.value c.len.ensures in
    λ level free. joined_within way.body way.plan way.state c.args.keys.now walkable c.at_level-places.result.now same c.args.iters.now c.open_rising.new.iters c.later-begin.result c.requires.iters (e.opened c.if-greatest.false)
    level c.args.moves.now c.open_rising.new.moves c.meet.new.moves free c.requires.held (e.each c.if-greatest.false) c.meet.ensures.within

pub returns-clause-gone : goal.returns-clause-gone
returns-clause-gone g c =
    let way = c.args.way.now in
    let e = c.in_ok-greatest.ensures in
    let m = c.in_ok-met.ensures in
    let walkable = way_walkable _ way c.way.view_is c.way.invariant.0 in
    let same = way_places _ way c.args.keys.now c.at_level-places.result.now c.len.result c.way.view_is c.at_level-places.ensures.value c.len.ensures in
    let begin = c.later-begin.result in
    let low = begin_low c.args.from c.args.range.lo c.opens_at.result begin c.requires.bound c.requires.low c.opens_at.ensures c.later-begin.ensures.one in
    let before : (k : ℕ) → c.args.from ≤ k → k < begin → IsOut way.body way.plan c.args.keys.now k = λ k le lt. c.requires.leaves k (inl (begin_before c.args.from c.args.range.lo c.opens_at.result begin k c.opens_at.ensures c.later-begin.ensures.one le lt)) in
    λ level free. gone_from way.body way.plan way.state c.args.keys.now walkable level c.args.sense.now c.meet.new.passing c.args.iters.now c.meet.new.iters c.args.from begin _ c.args.moves.now c.meet.new.moves c.in_ok-met.met.key c.in_ok-met.met.turn
    c.later-begin.ensures.first before
    (joined_gone way.body way.plan way.state c.args.keys.now walkable c.at_level-places.result.now same c.args.iters.now c.open_rising.new.iters begin c.requires.iters (e.opened c.if-greatest.false)
    c.meet.new.iters level free c.in_ok-greatest.greatest c.args.range.hi c.in_ok-met.met.key c.in_ok-met.met.turn c.args.sense.now c.open_rising.new.sense c.meet.new.passing c.args.moves.now c.open_rising.new.moves c.meet.new.moves
    c.requires.held low e.sensed (e.rising c.if-greatest.false) (e.last c.if-greatest.false) (e.each c.if-greatest.false)
    (record { keys = m.keys; still = m.still; others = m.others; exact = m.exact; found = m.found; ring = m.ring; made = m.made; left = m.left }) (omega arith) c.if-met-range.false)

pub returns-clause-within : goal.returns-clause-within
returns-clause-within g c =
    let way = c.args.way.now in
    let e = c.in_ok-greatest.ensures in
    let walkable = way_walkable _ way c.way.view_is c.way.invariant.0 in
    let same = way_places _ way c.args.keys.now c.at_level-places.result.now c.len.result c.way.view_is c.at_level-places.ensures.value c.len.ensures in
    λ level free. joined_within way.body way.plan way.state c.args.keys.now walkable c.at_level-places.result.now same c.args.iters.now c.open_rising.new.iters c.later-begin.result c.requires.iters (e.opened c.if-greatest.false)
    level c.args.moves.now c.open_rising.new.moves c.meet.new.moves free c.requires.held (e.each c.if-greatest.false) c.meet.ensures.within
