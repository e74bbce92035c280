use Rattle.std.proofs.Common.{◌≡◌, ◌+◌, ◌<◌, ◌≤◌, length, inl, inr, arith}
use Rattle.lt_leap.proofs.Meets.{on_ok}
use Rattle.lt_join.proofs.MetCalls.{way_walkable, way_unfit, way_level, lone_yes, lone_no, met_places, met_ring, met_first, met_ahead, met_opened, met_within, met_gone, met_ended}
use Rattle.lt_join.proofs.MetLevels.{gone_over, gone_twice, opened_still, places_still}
use Rattle.lt_join.proofs.level.next_key.Goals as goal
use Rattle.lt_join.proofs.level.next_key.Goals.{then-len-gt0-via-then-len-gt0, then-len-gt0-via-else-len-gt0+then-len-gt0-2}

pub close-requires-clause-places : goal.close-requires-clause-places
close-requires-clause-places g c =
    met_places _ c.args.way.now c.way.view_is c.way.invariant.0 c.args.keys.now c.at_level-places.result.now c.len.result c.at_level-places.ensures.value c.len.ensures c.requires.at.0 c.args.iters.now c.args.met.key c.args.met.turn c.requires.at.1

pub close-requires-clause-opened : goal.close-requires-clause-opened
close-requires-clause-opened g c =
    (c.requires.at.0, met_opened _ c.args.way.now c.way.view_is c.way.invariant.0 c.args.keys.now c.at_level-places.result.now c.len.result c.at_level-places.ensures.value c.len.ensures c.requires.at.0 c.args.iters.now c.args.met.key c.args.met.turn c.requires.at.1)

pub returns-then-len-gt0-clause-gone : goal.returns-then-len-gt0-clause-gone
returns-then-len-gt0-clause-gone g c =
    let way = c.args.way.now in
    let some : 0 < length c.index-as_slice-len.result.pins + length c.index-as_slice-len.result.ties =
    elim c.then-len-gt0.branch [ then-len-gt0-via-then-len-gt0 w ↦ (let a = w.if-len-gt0.true in let b = c.len-3.ensures in omega arith) | then-len-gt0-via-else-len-gt0+then-len-gt0-2 w ↦ (let a = w.if-len-gt0-2.true in let b = w.len-else-len-gt0.ensures in omega arith) ] in
    λ level there above is fits.
    let here = way_level _ c.args.way.now c.args.keys.now c.as_slice.result.now c.len-2.result level c.index-as_slice-len.result c.way.view_is c.as_slice.ensures c.len-2.ensures c.index-as_slice-len.is there in
    let back = c.close.ensures above (met_opened _ c.args.way.now c.way.view_is c.way.invariant.0 c.args.keys.now c.at_level-places.result.now c.len.result c.at_level-places.ensures.value c.len.ensures above c.args.iters.now c.args.met.key c.args.met.turn is) in
    gone_over way.body way.plan way.state c.args.keys.now (way_walkable _ way c.way.view_is c.way.invariant.0) level c.args.sense.now above c.close.new.iters c.args.met.key c.args.moves.now c.ended.result.key c.ended.result.turn _
    (lone_yes c.index-as_slice-len.result level here some) (way_unfit _ way c.args.keys.now level c.way.view_is c.way.invariant.0 there) fits c.requires.low c.requires.tight c.ended.ensures.key back

pub meet_from-requires-clause-places : goal.meet_from-requires-clause-places
meet_from-requires-clause-places g c =
    met_places _ c.args.way.now c.way.view_is c.way.invariant.0 c.args.keys.now c.at_level-places.result.now c.len.result c.at_level-places.ensures.value c.len.ensures c.requires.at.0 c.args.iters.now c.args.met.key c.args.met.turn c.requires.at.1

pub meet_from-requires-clause-ring : goal.meet_from-requires-clause-ring
meet_from-requires-clause-ring g c =
    met_ring _ c.args.way.now c.way.view_is c.way.invariant.0 c.args.keys.now c.at_level-places.result.now c.len.result c.at_level-places.ensures.value c.len.ensures c.requires.at.0 c.args.iters.now c.args.met.key c.args.met.turn c.requires.at.1

pub meet_from-requires-clause-goes_on : goal.meet_from-requires-clause-goes_on
meet_from-requires-clause-goes_on g c =
    let first = met_first _ c.args.way.now c.way.view_is c.way.invariant.0 c.args.keys.now c.at_level-places.result.now c.len.result c.at_level-places.ensures.value c.len.ensures c.requires.at.0 c.args.iters.now c.args.met.key c.args.met.turn c.requires.at.1 in
    let low = c.requires.at.1.not_ended in
    λ ended. omega arith

pub meet_from-requires-clause-ahead : goal.meet_from-requires-clause-ahead
meet_from-requires-clause-ahead g c =
    met_ahead _ c.args.way.now c.way.view_is c.way.invariant.0 c.args.keys.now c.at_level-places.result.now c.len.result c.at_level-places.ensures.value c.len.ensures c.requires.at.0 c.args.iters.now c.args.met.key c.args.met.turn c.requires.at.1

pub returns-in_err-next-clause-within : goal.returns-in_err-next-clause-within
returns-in_err-next-clause-within g c =
    let no_pins : length c.index-as_slice-len.result.pins ≡ 0 = (let a = c.if-len-gt0.false in let b = c.len-3.ensures in omega arith) in
    let no_ties : length c.index-as_slice-len.result.ties ≡ 0 = (let a = c.if-len-gt0-2.false in let b = c.len-else-len-gt0.ensures in omega arith) in
    λ level there.
    let here = way_level _ c.args.way.now c.args.keys.now c.as_slice.result.now c.len-2.result level c.index-as_slice-len.result c.way.view_is c.as_slice.ensures c.len-2.ensures c.index-as_slice-len.is there in
    let free = lone_no c.index-as_slice-len.result level here no_pins no_ties in
    met_within _ c.args.way.now c.way.view_is c.way.invariant.0 c.args.keys.now c.at_level-places.result.now c.len.result c.at_level-places.ensures.value c.len.ensures c.requires.at.0 c.args.iters.now c.args.met.key c.args.met.turn c.requires.at.1 level c.args.moves.now c.meet_from.new.moves free c.meet_from.ensures.within

pub close-requires-then-next-range-clause-places : goal.close-requires-then-next-range-clause-places
close-requires-then-next-range-clause-places g c =
    let m = c.in_ok-next.ensures in
    places_still c.at_level-places.result.now c.args.iters.now c.meet_from.new.iters m.still (met_places _ c.args.way.now c.way.view_is c.way.invariant.0 c.args.keys.now c.at_level-places.result.now c.len.result c.at_level-places.ensures.value c.len.ensures c.requires.at.0 c.args.iters.now c.args.met.key c.args.met.turn c.requires.at.1)

pub close-requires-then-next-range-clause-opened : goal.close-requires-then-next-range-clause-opened
close-requires-then-next-range-clause-opened g c =
    let m = c.in_ok-next.ensures in
    (c.requires.at.0, opened_still c.at_level-places.result.now c.requires.at.0 c.args.iters.now c.meet_from.new.iters (met_opened _ c.args.way.now c.way.view_is c.way.invariant.0 c.args.keys.now c.at_level-places.result.now c.len.result c.at_level-places.ensures.value c.len.ensures c.requires.at.0 c.args.iters.now c.args.met.key c.args.met.turn c.requires.at.1) m.still m.others)

pub returns-then-next-range-clause-gone : goal.returns-then-next-range-clause-gone
returns-then-next-range-clause-gone g c =
    let m = c.in_ok-next.ensures in
    let over : c.args.range.hi ≤ c.in_ok-next.next.key = c.if-next-range.true in
    let no_pins : length c.index-as_slice-len.result.pins ≡ 0 = (let a = c.if-len-gt0.false in let b = c.len-3.ensures in omega arith) in
    let no_ties : length c.index-as_slice-len.result.ties ≡ 0 = (let a = c.if-len-gt0-2.false in let b = c.len-else-len-gt0.ensures in omega arith) in
    λ level there above is fits.
    let here = way_level _ c.args.way.now c.args.keys.now c.as_slice.result.now c.len-2.result level c.index-as_slice-len.result c.way.view_is c.as_slice.ensures c.len-2.ensures c.index-as_slice-len.is there in
    let free = lone_no c.index-as_slice-len.result level here no_pins no_ties in
    let back = c.close-then-next-range.ensures above (opened_still c.at_level-places.result.now above c.args.iters.now c.meet_from.new.iters (met_opened _ c.args.way.now c.way.view_is c.way.invariant.0 c.args.keys.now c.at_level-places.result.now c.len.result c.at_level-places.ensures.value c.len.ensures above c.args.iters.now c.args.met.key c.args.met.turn is) m.still m.others) in
    met_ended _ c.args.way.now c.way.view_is c.way.invariant.0 c.args.keys.now c.at_level-places.result.now c.len.result c.at_level-places.ensures.value c.len.ensures above c.args.iters.now c.args.met.key c.args.met.turn is
    c.meet_from.new.iters c.args.range.hi c.in_ok-next.next.key c.in_ok-next.next.turn c.args.sense.now c.meet_from.new.passing c.args.moves.now c.meet_from.new.moves c.requires.low c.requires.tight (record { keys = m.keys; still = m.still; others = m.others; exact = m.exact; found = m.found; ring = m.ring; made = m.made; left = m.left; each = m.each }) level free
    c.close-then-next-range.new.iters c.ended-then-next-range.result.key c.ended-then-next-range.result.turn (λ k le. c.requires.leaves k (inr (omega arith))) c.ended-then-next-range.ensures.key back

pub returns-then-next-range-clause-within : goal.returns-then-next-range-clause-within
returns-then-next-range-clause-within g c =
    let no_pins : length c.index-as_slice-len.result.pins ≡ 0 = (let a = c.if-len-gt0.false in let b = c.len-3.ensures in omega arith) in
    let no_ties : length c.index-as_slice-len.result.ties ≡ 0 = (let a = c.if-len-gt0-2.false in let b = c.len-else-len-gt0.ensures in omega arith) in
    λ level there.
    let here = way_level _ c.args.way.now c.args.keys.now c.as_slice.result.now c.len-2.result level c.index-as_slice-len.result c.way.view_is c.as_slice.ensures c.len-2.ensures c.index-as_slice-len.is there in
    let free = lone_no c.index-as_slice-len.result level here no_pins no_ties in
    met_within _ c.args.way.now c.way.view_is c.way.invariant.0 c.args.keys.now c.at_level-places.result.now c.len.result c.at_level-places.ensures.value c.len.ensures c.requires.at.0 c.args.iters.now c.args.met.key c.args.met.turn c.requires.at.1 level c.args.moves.now c.meet_from.new.moves free c.meet_from.ensures.within

pub go_on-requires-clause-at : goal.go_on-requires-clause-at
go_on-requires-clause-at g c =
    let m = c.in_ok-next.ensures in
    let below : c.in_ok-next.next.key < c.args.range.hi = c.if-next-range.false in
    let no_pins : length c.index-as_slice-len.result.pins ≡ 0 = (let a = c.if-len-gt0.false in let b = c.len-3.ensures in omega arith) in
    let no_ties : length c.index-as_slice-len.result.ties ≡ 0 = (let a = c.if-len-gt0-2.false in let b = c.len-else-len-gt0.ensures in omega arith) in
    let level = c.requires.usable.0 in
    let there = c.requires.usable.1 in
    let here = way_level _ c.args.way.now c.args.keys.now c.as_slice.result.now c.len-2.result level c.index-as_slice-len.result c.way.view_is c.as_slice.ensures c.len-2.ensures c.index-as_slice-len.is there in
    let free = lone_no c.index-as_slice-len.result level here no_pins no_ties in
    let first = met_gone _ c.args.way.now c.way.view_is c.way.invariant.0 c.args.keys.now c.at_level-places.result.now c.len.result c.at_level-places.ensures.value c.len.ensures c.requires.at.0 c.args.iters.now c.args.met.key c.args.met.turn c.requires.at.1
    c.meet_from.new.iters c.args.range.hi c.in_ok-next.next.key c.in_ok-next.next.turn c.args.sense.now c.meet_from.new.passing c.args.moves.now c.meet_from.new.moves c.requires.low c.requires.tight (record { keys = m.keys; still = m.still; others = m.others; exact = m.exact; found = m.found; ring = m.ring; made = m.made; left = m.left; each = m.each }) level free (omega arith) below in
    let low : c.in_ok-next.next.key < c.args.range.lo = c.if-next-range-2.true in
    let near = c.requires.ahead in
    (c.requires.at.0, first.at_key (omega arith))

pub go_on-requires-clause-tight : goal.go_on-requires-clause-tight
go_on-requires-clause-tight g c =
    let m = c.in_ok-next.ensures in
    let below : c.in_ok-next.next.key < c.args.range.hi = c.if-next-range.false in
    let no_pins : length c.index-as_slice-len.result.pins ≡ 0 = (let a = c.if-len-gt0.false in let b = c.len-3.ensures in omega arith) in
    let no_ties : length c.index-as_slice-len.result.ties ≡ 0 = (let a = c.if-len-gt0-2.false in let b = c.len-else-len-gt0.ensures in omega arith) in
    let level = c.requires.usable.0 in
    let there = c.requires.usable.1 in
    let here = way_level _ c.args.way.now c.args.keys.now c.as_slice.result.now c.len-2.result level c.index-as_slice-len.result c.way.view_is c.as_slice.ensures c.len-2.ensures c.index-as_slice-len.is there in
    let free = lone_no c.index-as_slice-len.result level here no_pins no_ties in
    let first = met_gone _ c.args.way.now c.way.view_is c.way.invariant.0 c.args.keys.now c.at_level-places.result.now c.len.result c.at_level-places.ensures.value c.len.ensures c.requires.at.0 c.args.iters.now c.args.met.key c.args.met.turn c.requires.at.1
    c.meet_from.new.iters c.args.range.hi c.in_ok-next.next.key c.in_ok-next.next.turn c.args.sense.now c.meet_from.new.passing c.args.moves.now c.meet_from.new.moves c.requires.low c.requires.tight (record { keys = m.keys; still = m.still; others = m.others; exact = m.exact; found = m.found; ring = m.ring; made = m.made; left = m.left; each = m.each }) level free (omega arith) below in
    first.stands.tight

pub returns-then-next-range-2-clause-gone : goal.returns-then-next-range-2-clause-gone
returns-then-next-range-2-clause-gone g c =
    let m = c.in_ok-next.ensures in
    let below : c.in_ok-next.next.key < c.args.range.hi = c.if-next-range.false in
    let no_pins : length c.index-as_slice-len.result.pins ≡ 0 = (let a = c.if-len-gt0.false in let b = c.len-3.ensures in omega arith) in
    let no_ties : length c.index-as_slice-len.result.ties ≡ 0 = (let a = c.if-len-gt0-2.false in let b = c.len-else-len-gt0.ensures in omega arith) in
    let low : c.in_ok-next.next.key < c.args.range.lo = c.if-next-range-2.true in
    let near = c.requires.ahead in
    let way = c.args.way.now in
    on_ok c.go_on.result c.go_on.ensures.gone (λ met same goes level there above is fits.
    let here = way_level _ c.args.way.now c.args.keys.now c.as_slice.result.now c.len-2.result level c.index-as_slice-len.result c.way.view_is c.as_slice.ensures c.len-2.ensures c.index-as_slice-len.is there in
    let free = lone_no c.index-as_slice-len.result level here no_pins no_ties in
    let first = met_gone _ c.args.way.now c.way.view_is c.way.invariant.0 c.args.keys.now c.at_level-places.result.now c.len.result c.at_level-places.ensures.value c.len.ensures above c.args.iters.now c.args.met.key c.args.met.turn is
    c.meet_from.new.iters c.args.range.hi c.in_ok-next.next.key c.in_ok-next.next.turn c.args.sense.now c.meet_from.new.passing c.args.moves.now c.meet_from.new.moves c.requires.low c.requires.tight (record { keys = m.keys; still = m.still; others = m.others; exact = m.exact; found = m.found; ring = m.ring; made = m.made; left = m.left; each = m.each }) level free (omega arith) below in
    gone_twice way.body way.plan way.state c.args.keys.now (way_walkable _ way c.way.view_is c.way.invariant.0) level c.args.sense.now c.meet_from.new.passing c.go_on.new.sense above c.meet_from.new.iters c.go_on.new.iters (c.args.met.key + 1) c.args.range.lo _ c.args.moves.now c.meet_from.new.moves c.go_on.new.moves
    c.in_ok-next.next.key c.in_ok-next.next.turn met.key met.turn low (λ k less. c.requires.leaves k (inl less)) first (goes level there free above (first.at_key (omega arith))))

pub returns-then-next-range-2-clause-within : goal.returns-then-next-range-2-clause-within
returns-then-next-range-2-clause-within g c =
    let m = c.in_ok-next.ensures in
    let below : c.in_ok-next.next.key < c.args.range.hi = c.if-next-range.false in
    let no_pins : length c.index-as_slice-len.result.pins ≡ 0 = (let a = c.if-len-gt0.false in let b = c.len-3.ensures in omega arith) in
    let no_ties : length c.index-as_slice-len.result.ties ≡ 0 = (let a = c.if-len-gt0-2.false in let b = c.len-else-len-gt0.ensures in omega arith) in
    λ level there.
    let here = way_level _ c.args.way.now c.args.keys.now c.as_slice.result.now c.len-2.result level c.index-as_slice-len.result c.way.view_is c.as_slice.ensures c.len-2.ensures c.index-as_slice-len.is there in
    let free = lone_no c.index-as_slice-len.result level here no_pins no_ties in
    let first = met_gone _ c.args.way.now c.way.view_is c.way.invariant.0 c.args.keys.now c.at_level-places.result.now c.len.result c.at_level-places.ensures.value c.len.ensures c.requires.at.0 c.args.iters.now c.args.met.key c.args.met.turn c.requires.at.1
    c.meet_from.new.iters c.args.range.hi c.in_ok-next.next.key c.in_ok-next.next.turn c.args.sense.now c.meet_from.new.passing c.args.moves.now c.meet_from.new.moves c.requires.low c.requires.tight (record { keys = m.keys; still = m.still; others = m.others; exact = m.exact; found = m.found; ring = m.ring; made = m.made; left = m.left; each = m.each }) level free (omega arith) below in
    let second = c.go_on.ensures.within level there free in
    let kept = first.cost.kept in
    omega arith

pub returns-clause-gone : goal.returns-clause-gone
returns-clause-gone g c =
    let m = c.in_ok-next.ensures in
    let below : c.in_ok-next.next.key < c.args.range.hi = c.if-next-range.false in
    let no_pins : length c.index-as_slice-len.result.pins ≡ 0 = (let a = c.if-len-gt0.false in let b = c.len-3.ensures in omega arith) in
    let no_ties : length c.index-as_slice-len.result.ties ≡ 0 = (let a = c.if-len-gt0-2.false in let b = c.len-else-len-gt0.ensures in omega arith) in
    λ level there above is fits.
    let here = way_level _ c.args.way.now c.args.keys.now c.as_slice.result.now c.len-2.result level c.index-as_slice-len.result c.way.view_is c.as_slice.ensures c.len-2.ensures c.index-as_slice-len.is there in
    let free = lone_no c.index-as_slice-len.result level here no_pins no_ties in
    met_gone _ c.args.way.now c.way.view_is c.way.invariant.0 c.args.keys.now c.at_level-places.result.now c.len.result c.at_level-places.ensures.value c.len.ensures above c.args.iters.now c.args.met.key c.args.met.turn is
    c.meet_from.new.iters c.args.range.hi c.in_ok-next.next.key c.in_ok-next.next.turn c.args.sense.now c.meet_from.new.passing c.args.moves.now c.meet_from.new.moves c.requires.low c.requires.tight (record { keys = m.keys; still = m.still; others = m.others; exact = m.exact; found = m.found; ring = m.ring; made = m.made; left = m.left; each = m.each }) level free (omega arith) below

pub returns-clause-within : goal.returns-clause-within
returns-clause-within g c =
    let no_pins : length c.index-as_slice-len.result.pins ≡ 0 = (let a = c.if-len-gt0.false in let b = c.len-3.ensures in omega arith) in
    let no_ties : length c.index-as_slice-len.result.ties ≡ 0 = (let a = c.if-len-gt0-2.false in let b = c.len-else-len-gt0.ensures in omega arith) in
    λ level there.
    let here = way_level _ c.args.way.now c.args.keys.now c.as_slice.result.now c.len-2.result level c.index-as_slice-len.result c.way.view_is c.as_slice.ensures c.len-2.ensures c.index-as_slice-len.is there in
    let free = lone_no c.index-as_slice-len.result level here no_pins no_ties in
    met_within _ c.args.way.now c.way.view_is c.way.invariant.0 c.args.keys.now c.at_level-places.result.now c.len.result c.at_level-places.ensures.value c.len.ensures c.requires.at.0 c.args.iters.now c.args.met.key c.args.met.turn c.requires.at.1 level c.args.moves.now c.meet_from.new.moves free c.meet_from.ensures.within
