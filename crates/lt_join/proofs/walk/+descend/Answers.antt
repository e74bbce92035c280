use Rattle.std.proofs.Common.{◌≡◌, ℕ, ◌+◌, ◌-◌, ◌^◌, ◌<◌, ◌≤◌, ◌⊎◌, false, List, length, drop, Some, slice_get, [], ◌∷◌, ◌++◌, sym, refl, ◌∙◌, ap, arith, subst}
use Rattle.lt_query.specs.declared.plans.Level.{Level}
use Rattle.lt_join.specs.Cost.{cost_from}
use Rattle.lt_join.specs.Explored.{Fits}
use Rattle.lt_join.specs.Holders.{IsUsable, atoms_at}
use Rattle.lt_join.specs.Known.{IsKnown}
use Rattle.lt_join.specs.Level.{AreAtomsAt}
use Rattle.lt_join.specs.Narrowed.{Leaves}
use Rattle.lt_join.specs.Values.{values_in}
use Rattle.lt_join.specs.Walked.{at, IsReached}
use Rattle.lt_join.specs.Way.{WayView, IsWay, HasWalked}
use Rattle.lt_join.proofs.Entered.{entered}
use Rattle.lt_join.proofs.Going.{HasEntered, usable_level, entered_right, explored_key, going_begun, going_more, going_cell, going_fits, goes_below, goes_on, moves_on, stands_still, closing_places, closing_opened, low_cell, not_full, walked_all, walked_hopeless, walked_stopped, going_cost, stopped_cost, opened_cost}
use Rattle.lt_join.proofs.Known.{IsKnown-above}
use Rattle.lt_join.proofs.KnownLists.{walkable_all}
use Rattle.lt_join.proofs.Steps.{IsReached-grows, length_push, popped}
use Rattle.lt_join.proofs.walk.+descend.Goals as goal

pub open-requires-clause-usable : goal.open-requires-clause-usable
open-requires-clause-usable g t c =
    let way : IsWay c.args.way.now = subst IsWay c.way.view_is c.way.invariant.0 in
    let deeper : length c.args.keys.now < length c.args.way.now.plan.levels = not_full c.args.keys.now c.args.way.now.plan.levels c.len-depth.result c.len.result c.requires.reached.within c.len-depth.ensures (c.len.ensures ∙ ap (λ (w : WayView). length w.plan.levels) c.way.view_is) c.if-depth-len.false in
    usable_level c.args.way.now c.args.walk.now.found.sense c.args.keys.now way c.requires.reached deeper

pub returns-then-is_hopeless-clause-walked : goal.returns-then-is_hopeless-clause-walked
returns-then-is_hopeless-clause-walked g t c =
    let way : IsWay c.args.way.now = subst IsWay c.way.view_is c.way.invariant.0 in
    let deeper : length c.args.keys.now < length c.args.way.now.plan.levels = not_full c.args.keys.now c.args.way.now.plan.levels c.len-depth.result c.len.result c.requires.reached.within c.len-depth.ensures (c.len.ensures ∙ ap (λ (w : WayView). length w.plan.levels) c.way.view_is) c.if-depth-len.false in
    walked_hopeless c.args.way.now c.args.walk.now.found c.args.keys.now c.args.moves.now deeper c.requires.right (c.is_hopeless.ensures c.if-is_hopeless.true)

pub loop-met-init : goal.loop-met-init
loop-met-init g t c =
    let way : IsWay c.args.way.now = subst IsWay c.way.view_is c.way.invariant.0 in
    let deeper : length c.args.keys.now < length c.args.way.now.plan.levels = not_full c.args.keys.now c.args.way.now.plan.levels c.len-depth.result c.len.result c.requires.reached.within c.len-depth.ensures (c.len.ensures ∙ ap (λ (w : WayView). length w.plan.levels) c.way.view_is) c.if-depth-len.false in
    record {
      same = refl;
      known = c.requires.known;
      going = going_begun c.args.way.now c.args.walk.now.found c.open.new.sense c.args.keys.now c.args.iters.now c.open.new.iters 0 c.args.moves.now c.open.new.moves c.in_ok-met.met.key c.in_ok-met.met.turn deeper c.requires.right c.in_ok-met.ensures.gone;
    }

pub enter-requires-clause-deeper : goal.enter-requires-clause-deeper
enter-requires-clause-deeper g t c =
    let way : IsWay c.args.way.now = subst IsWay c.way.view_is c.way.invariant.0 in
    let deeper : length c.args.keys.now < length c.args.way.now.plan.levels = not_full c.args.keys.now c.args.way.now.plan.levels c.len-depth.result c.len.result c.requires.reached.within c.len-depth.ensures (c.len.ensures ∙ ap (λ (w : WayView). length w.plan.levels) c.way.view_is) c.if-depth-len.false in
    subst (λ (ks : List ℕ). length ks < length c.args.way.now.plan.levels) (sym c.loop-met.invariant.same) deeper

pub enter-requires-clause-iters : goal.enter-requires-clause-iters
enter-requires-clause-iters g t c =
    let way : IsWay c.args.way.now = subst IsWay c.way.view_is c.way.invariant.0 in
    let deeper : length c.args.keys.now < length c.args.way.now.plan.levels = not_full c.args.keys.now c.args.way.now.plan.levels c.len-depth.result c.len.result c.requires.reached.within c.len-depth.ensures (c.len.ensures ∙ ap (λ (w : WayView). length w.plan.levels) c.way.view_is) c.if-depth-len.false in
    let inv = c.loop-met.invariant in
    let at_key : c.loop-met.met.key < 2 ^ 128 - 1 = omega arith in
    subst (λ (ks : List ℕ). AreAtomsAt c.args.way.now.plan c.args.way.now.state (ks ++ c.loop-met.met.key ∷ []) c.loop-met.iters) (sym inv.same)
    (entered c.args.way.now.plan c.args.way.now.state c.args.keys.now (walkable_all c.args.way.now.body c.args.way.now.plan way.of_body) c.args.iters.now c.loop-met.iters c.loop-met.met.key c.loop-met.met.turn (inv.going.stands at_key))

pub enter-requires-clause-known : goal.enter-requires-clause-known
enter-requires-clause-known g t c =
    subst (λ (ks : List ℕ). IsKnown c.args.way.now.plan.levels ks (values_in c.loop-met.walk.values.cells)) (sym c.loop-met.invariant.same) c.loop-met.invariant.known

pub enter-requires-clause-reached : goal.enter-requires-clause-reached
enter-requires-clause-reached g t c =
    let inv = c.loop-met.invariant in
    subst (IsReached c.args.way.now.plan c.loop-met.walk.found.sense) (sym inv.same) (IsReached-grows c.args.way.now.plan c.args.walk.now.found.sense c.loop-met.walk.found.sense inv.going.done.grows.sense c.args.keys.now c.requires.reached)

pub enter-requires-clause-cell : goal.enter-requires-clause-cell
enter-requires-clause-cell g t c =
    let inv = c.loop-met.invariant in
    let at_key : c.loop-met.met.key < 2 ^ 128 - 1 = omega arith in
    going_cell c.args.way.now c.args.walk.now.found c.loop-met.walk.found c.args.keys.now c.args.iters.now c.loop-met.iters 0 c.args.moves.now c.loop-met.moves c.loop-met.met.key c.loop-met.met.turn inv.going at_key

pub enter-requires-clause-fits : goal.enter-requires-clause-fits
enter-requires-clause-fits g t c =
    let inv = c.loop-met.invariant in
    let at_key : c.loop-met.met.key < 2 ^ 128 - 1 = omega arith in
    subst (λ (ks : List ℕ). (level : Level) → slice_get c.args.way.now.plan.levels (length ks) ≡ Some level → Fits level (at ks) c.loop-met.met.key) (sym inv.same)
    (going_fits c.args.way.now c.args.walk.now.found c.loop-met.walk.found c.args.keys.now c.args.iters.now c.loop-met.iters 0 c.args.moves.now c.loop-met.moves c.loop-met.met.key c.loop-met.met.turn inv.going at_key)

pub enter-requires-clause-tight : goal.enter-requires-clause-tight
enter-requires-clause-tight g t c =
    c.loop-met.invariant.going.done.right.tight

pub descend-requires : goal.descend-requires
descend-requires g t c =
    let way : IsWay c.args.way.now = subst IsWay c.way.view_is c.way.invariant.0 in
    let deeper : length c.args.keys.now < length c.args.way.now.plan.levels = not_full c.args.keys.now c.args.way.now.plan.levels c.len-depth.result c.len.result c.requires.reached.within c.len-depth.ensures (c.len.ensures ∙ ap (λ (w : WayView). length w.plan.levels) c.way.view_is) c.if-depth-len.false in
    let inv = c.loop-met.invariant in
    let at_key : c.loop-met.met.key < 2 ^ 128 - 1 = omega arith in
    let pushed : c.enter.new.keys ≡ c.args.keys.now ++ c.loop-met.met.key ∷ [] = c.in_ok-enter.ensures.keys ∙ ap (λ (ks : List ℕ). ks ++ c.loop-met.met.key ∷ []) inv.same in
    let deep : HasEntered c.args.way.now c.args.keys.now c.loop-met.walk.found c.enter.new.walk.found = record {
      grows = c.in_ok-enter.ensures.grows;
      tight = c.in_ok-enter.ensures.tight;
      gaps = c.in_ok-enter.ensures.gaps;
      few = subst (λ (ks : List ℕ). length c.enter.new.walk.found.sense.hits ≤ length c.loop-met.walk.found.sense.hits + length (atoms_at c.args.way.now.plan.guides (length ks))) inv.same c.in_ok-enter.ensures.few;
      rows = c.in_ok-enter.ensures.rows;
    } in
    let longer : length c.enter.new.keys ≡ length c.args.keys.now + 1 = ap length pushed ∙ length_push c.args.keys.now c.loop-met.met.key in
    let iters = subst (λ (ks : List ℕ). AreAtomsAt c.args.way.now.plan c.args.way.now.state ks c.loop-met.iters) (sym pushed)
    (entered c.args.way.now.plan c.args.way.now.state c.args.keys.now (walkable_all c.args.way.now.body c.args.way.now.plan way.of_body) c.args.iters.now c.loop-met.iters c.loop-met.met.key c.loop-met.met.turn (inv.going.stands at_key)) in
    let known = subst (λ (ks : List ℕ). IsKnown c.args.way.now.plan.levels ks (values_in c.enter.new.walk.values.cells)) (sym c.in_ok-enter.ensures.keys) c.in_ok-enter.ensures.known in
    let reached = subst (IsReached c.args.way.now.plan c.enter.new.walk.found.sense) (sym c.in_ok-enter.ensures.keys) c.in_ok-enter.ensures.reached in
    let right = entered_right c.args.way.now c.args.keys.now c.loop-met.walk.found c.enter.new.walk.found deep inv.going.done.right in
    λ κs lives. (omega (arith, longer, deeper), (lives.0, (lives.1.0, (lives.1.1.0, (lives.1.1.1, (iters, (known, (reached, right))))))))

pub pop-requires : goal.pop-requires
pop-requires g t c =
    let inv = c.loop-met.invariant in
    let at_key : c.loop-met.met.key < 2 ^ 128 - 1 = omega arith in
    let pushed : c.enter.new.keys ≡ c.args.keys.now ++ c.loop-met.met.key ∷ [] = c.in_ok-enter.ensures.keys ∙ ap (λ (ks : List ℕ). ks ++ c.loop-met.met.key ∷ []) inv.same in
    let long = ap length (c.in_ok-stopped.ensures.back ∙ pushed) ∙ length_push c.args.keys.now c.loop-met.met.key in
    omega (arith, long)

pub close-requires-clause-places : goal.close-requires-clause-places
close-requires-clause-places g t c =
    let inv = c.loop-met.invariant in
    let at_key : c.loop-met.met.key < 2 ^ 128 - 1 = omega arith in
    let same : c.way.inside.plan.now ≡ c.args.way.now.plan = ap (λ (w : WayView). w.plan) c.way.view_is in
    closing_places c.args.way.now c.way.inside.plan.now c.args.keys.now c.at_level.result.now c.args.iters.now c.loop-met.iters c.descend.new.iters c.loop-met.met.key c.loop-met.met.turn same c.at_level.ensures.within c.at_level.ensures.rising c.in_ok-stopped.ensures.iters (inv.going.stands at_key)

pub close-requires-clause-opened : goal.close-requires-clause-opened
close-requires-clause-opened g t c =
    let inv = c.loop-met.invariant in
    let at_key : c.loop-met.met.key < 2 ^ 128 - 1 = omega arith in
    let same : c.way.inside.plan.now ≡ c.args.way.now.plan = ap (λ (w : WayView). w.plan) c.way.view_is in
    (c.args.iters.now, closing_opened c.args.way.now c.way.inside.plan.now c.args.keys.now c.at_level.result.now c.args.iters.now c.loop-met.iters c.descend.new.iters c.len-depth.result c.loop-met.met.key c.loop-met.met.turn same c.at_level.ensures.value c.len-depth.ensures c.in_ok-stopped.ensures.iters (inv.going.stands at_key))

pub next_key-requires-clause-usable : goal.next_key-requires-clause-usable
next_key-requires-clause-usable g t c =
    let way : IsWay c.args.way.now = subst IsWay c.way.view_is c.way.invariant.0 in
    let deeper : length c.args.keys.now < length c.args.way.now.plan.levels = not_full c.args.keys.now c.args.way.now.plan.levels c.len-depth.result c.len.result c.requires.reached.within c.len-depth.ensures (c.len.ensures ∙ ap (λ (w : WayView). length w.plan.levels) c.way.view_is) c.if-depth-len.false in
    let inv = c.loop-met.invariant in
    let at_key : c.loop-met.met.key < 2 ^ 128 - 1 = omega arith in
    let pushed : c.enter.new.keys ≡ c.args.keys.now ++ c.loop-met.met.key ∷ [] = c.in_ok-enter.ensures.keys ∙ ap (λ (ks : List ℕ). ks ++ c.loop-met.met.key ∷ []) inv.same in
    let back : c.pop.new.self ≡ c.args.keys.now = popped c.args.keys.now c.loop-met.met.key c.descend.new.keys c.pop.new.self (c.in_ok-stopped.ensures.back ∙ pushed) c.pop.ensures in
    subst (λ (ks : List ℕ). (level : Level) × (slice_get c.args.way.now.plan.levels (length ks) ≡ Some level) × IsUsable c.args.way.now.plan.guides level ks) (sym back)
    (usable_level c.args.way.now c.args.walk.now.found.sense c.args.keys.now way c.requires.reached deeper)

pub next_key-requires-clause-at : goal.next_key-requires-clause-at
next_key-requires-clause-at g t c =
    let inv = c.loop-met.invariant in
    let at_key : c.loop-met.met.key < 2 ^ 128 - 1 = omega arith in
    let pushed : c.enter.new.keys ≡ c.args.keys.now ++ c.loop-met.met.key ∷ [] = c.in_ok-enter.ensures.keys ∙ ap (λ (ks : List ℕ). ks ++ c.loop-met.met.key ∷ []) inv.same in
    let back : c.pop.new.self ≡ c.args.keys.now = popped c.args.keys.now c.loop-met.met.key c.descend.new.keys c.pop.new.self (c.in_ok-stopped.ensures.back ∙ pushed) c.pop.ensures in
    let stay : c.descend.new.iters ≡ c.loop-met.iters = c.in_ok-stopped.ensures.iters in
    (c.args.iters.now, stands_still c.args.way.now c.loop-met.met.key c.loop-met.met.turn c.pop.new.self c.args.keys.now c.descend.new.iters c.args.iters.now c.loop-met.iters back stay (inv.going.stands at_key))

pub next_key-requires-clause-leaves : goal.next_key-requires-clause-leaves
next_key-requires-clause-leaves g t c =
    let pushed : c.enter.new.keys ≡ c.args.keys.now ++ c.loop-met.met.key ∷ [] = c.in_ok-enter.ensures.keys ∙ ap (λ (ks : List ℕ). ks ++ c.loop-met.met.key ∷ []) c.loop-met.invariant.same in
    let back : c.pop.new.self ≡ c.args.keys.now = popped c.args.keys.now c.loop-met.met.key c.descend.new.keys c.pop.new.self (c.in_ok-stopped.ensures.back ∙ pushed) c.pop.ensures in
    subst (λ (ks : List ℕ). Leaves c.args.way.now.body c.args.way.now.plan.levels ks c.range_below-range.result) (sym back) c.range_below-range.ensures.leaves

pub next_key-requires-clause-low : goal.next_key-requires-clause-low
next_key-requires-clause-low g t c =
    let inv = c.loop-met.invariant in
    let at_key : c.loop-met.met.key < 2 ^ 128 - 1 = omega arith in
    low_cell c.loop-met.met.key (going_cell c.args.way.now c.args.walk.now.found c.loop-met.walk.found c.args.keys.now c.args.iters.now c.loop-met.iters 0 c.args.moves.now c.loop-met.moves c.loop-met.met.key c.loop-met.met.turn inv.going at_key)

pub next_key-requires-clause-tight : goal.next_key-requires-clause-tight
next_key-requires-clause-tight g t c =
    c.in_ok-stopped.ensures.walked.right.tight

pub loop-met-preserved : goal.loop-met-preserved
loop-met-preserved g t c =
    let inv = c.loop-met.invariant in
    let at_key : c.loop-met.met.key < 2 ^ 128 - 1 = omega arith in
    let pushed : c.enter.new.keys ≡ c.args.keys.now ++ c.loop-met.met.key ∷ [] = c.in_ok-enter.ensures.keys ∙ ap (λ (ks : List ℕ). ks ++ c.loop-met.met.key ∷ []) inv.same in
    let deep : HasEntered c.args.way.now c.args.keys.now c.loop-met.walk.found c.enter.new.walk.found = record {
      grows = c.in_ok-enter.ensures.grows;
      tight = c.in_ok-enter.ensures.tight;
      gaps = c.in_ok-enter.ensures.gaps;
      few = subst (λ (ks : List ℕ). length c.enter.new.walk.found.sense.hits ≤ length c.loop-met.walk.found.sense.hits + length (atoms_at c.args.way.now.plan.guides (length ks))) inv.same c.in_ok-enter.ensures.few;
      rows = c.in_ok-enter.ensures.rows;
    } in
    let walked = subst (λ (ks : List ℕ). HasWalked c.args.way.now ks c.enter.new.walk.found c.descend.new.walk.found c.loop-met.moves c.descend.new.moves c.in_ok-stopped.stopped) pushed c.in_ok-stopped.ensures.walked in
    let back : c.pop.new.self ≡ c.args.keys.now = popped c.args.keys.now c.loop-met.met.key c.descend.new.keys c.pop.new.self (c.in_ok-stopped.ensures.back ∙ pushed) c.pop.ensures in
    let stay : c.descend.new.iters ≡ c.loop-met.iters = c.in_ok-stopped.ensures.iters in
    let below = subst (λ (ks : List ℕ). c.descend.new.moves ≤ c.loop-met.moves + cost_from (length c.args.way.now.body.absents) c.args.way.now.state c.args.way.now.plan.guides (drop (length ks) c.args.way.now.plan.levels) (length ks) (at ks)) pushed c.descend.ensures.cost in
    let way : IsWay c.args.way.now = subst IsWay c.way.view_is c.way.invariant.0 in
    let goes = subst (λ n. (c.in_ok-stopped.stopped ≡ false) ⊎ (c.len-depth.result < n)) (ap (λ (w : WayView). w.wanted) c.way.view_is) (c.stops_at.ensures.goes c.if-stops_at.false) in
    let explored = explored_key c.args.way.now c.args.keys.now c.loop-met.met.key c.loop-met.walk.found c.enter.new.walk.found c.descend.new.walk.found c.loop-met.moves c.descend.new.moves c.in_ok-stopped.stopped (goes_below c.args.way.now c.len-depth.result c.in_ok-stopped.stopped way goes) deep walked in
    record {
      same = back;
      known = IsKnown-above c.args.way.now.plan.levels c.args.keys.now c.loop-met.met.key (values_in c.descend.new.walk.values.cells)
          (subst (λ (ks : List ℕ). IsKnown c.args.way.now.plan.levels ks (values_in c.descend.new.walk.values.cells)) pushed c.in_ok-stopped.ensures.known);
      going = going_more c.args.way.now c.args.walk.now.found c.loop-met.walk.found c.descend.new.walk.found c.next_key.new.sense c.args.keys.now c.args.iters.now c.loop-met.iters c.next_key.new.iters 0 c.args.moves.now c.loop-met.moves c.descend.new.moves c.next_key.new.moves c.loop-met.met.key c.loop-met.met.turn c.in_ok-met-2.met.key c.in_ok-met-2.met.turn
          inv.going at_key explored below c.descend.ensures.moves
          (goes_on c.args.way.now c.descend.new.walk.found.sense c.next_key.new.sense c.next_key.new.iters c.loop-met.met.key c.loop-met.met.turn c.descend.new.moves c.next_key.new.moves c.in_ok-met-2.met.key c.in_ok-met-2.met.turn c.pop.new.self c.args.keys.now c.descend.new.iters c.args.iters.now c.loop-met.iters back stay c.in_ok-met-2.ensures.gone (inv.going.stands at_key));
    }

pub loop-met-smaller : goal.loop-met-smaller
loop-met-smaller g t c =
    let inv = c.loop-met.invariant in
    let at_key : c.loop-met.met.key < 2 ^ 128 - 1 = omega arith in
    let pushed : c.enter.new.keys ≡ c.args.keys.now ++ c.loop-met.met.key ∷ [] = c.in_ok-enter.ensures.keys ∙ ap (λ (ks : List ℕ). ks ++ c.loop-met.met.key ∷ []) inv.same in
    let back : c.pop.new.self ≡ c.args.keys.now = popped c.args.keys.now c.loop-met.met.key c.descend.new.keys c.pop.new.self (c.in_ok-stopped.ensures.back ∙ pushed) c.pop.ensures in
    let stay : c.descend.new.iters ≡ c.loop-met.iters = c.in_ok-stopped.ensures.iters in
    let went = goes_on c.args.way.now c.descend.new.walk.found.sense c.next_key.new.sense c.next_key.new.iters c.loop-met.met.key c.loop-met.met.turn c.descend.new.moves c.next_key.new.moves c.in_ok-met-2.met.key c.in_ok-met-2.met.turn c.pop.new.self c.args.keys.now c.descend.new.iters c.args.iters.now c.loop-met.iters back stay c.in_ok-met-2.ensures.gone (inv.going.stands at_key) inv.going.level inv.going.here (inv.going.done.at_key at_key).1 in
    let reaches = went.reaches in
    omega (arith, reaches)

pub returns-clause-walked : goal.returns-clause-walked
returns-clause-walked g t c =
    let inv = c.loop-met.invariant in
    walked_all c.args.way.now c.args.walk.now.found c.loop-met.walk.found c.args.keys.now c.args.iters.now c.loop-met.iters 0 c.args.moves.now c.loop-met.moves c.loop-met.met.key c.loop-met.met.turn inv.going refl (omega arith)

pub returns-clause-known : goal.returns-clause-known
returns-clause-known g t c =
    c.loop-met.invariant.known

pub returns-clause-iters : goal.returns-clause-iters
returns-clause-iters g t c =
    c.loop-met.invariant.going.ended (omega arith)

pub returns-clause-back : goal.returns-clause-back
returns-clause-back g t c =
    c.loop-met.invariant.same

pub returns-clause-cost : goal.returns-clause-cost
returns-clause-cost g t c =
    let inv = c.loop-met.invariant in
    going_cost c.args.way.now c.args.walk.now.found c.loop-met.walk.found c.args.keys.now c.args.iters.now c.loop-met.iters 0 c.args.moves.now c.loop-met.moves c.loop-met.met.key c.loop-met.met.turn inv.going

pub returns-clause-moves : goal.returns-clause-moves
returns-clause-moves g t c =
    c.loop-met.invariant.going.rises

pub returns-then-stops_at-clause-walked : goal.returns-then-stops_at-clause-walked
returns-then-stops_at-clause-walked g t c =
    let inv = c.loop-met.invariant in
    let at_key : c.loop-met.met.key < 2 ^ 128 - 1 = omega arith in
    let pushed : c.enter.new.keys ≡ c.args.keys.now ++ c.loop-met.met.key ∷ [] = c.in_ok-enter.ensures.keys ∙ ap (λ (ks : List ℕ). ks ++ c.loop-met.met.key ∷ []) inv.same in
    let deep : HasEntered c.args.way.now c.args.keys.now c.loop-met.walk.found c.enter.new.walk.found = record {
      grows = c.in_ok-enter.ensures.grows;
      tight = c.in_ok-enter.ensures.tight;
      gaps = c.in_ok-enter.ensures.gaps;
      few = subst (λ (ks : List ℕ). length c.enter.new.walk.found.sense.hits ≤ length c.loop-met.walk.found.sense.hits + length (atoms_at c.args.way.now.plan.guides (length ks))) inv.same c.in_ok-enter.ensures.few;
      rows = c.in_ok-enter.ensures.rows;
    } in
    let walked = subst (λ (ks : List ℕ). HasWalked c.args.way.now ks c.enter.new.walk.found c.descend.new.walk.found c.loop-met.moves c.descend.new.moves c.in_ok-stopped.stopped) pushed c.in_ok-stopped.ensures.walked in
    let way : IsWay c.args.way.now = subst IsWay c.way.view_is c.way.invariant.0 in
    let deeper : length c.args.keys.now < length c.args.way.now.plan.levels = not_full c.args.keys.now c.args.way.now.plan.levels c.len-depth.result c.len.result c.requires.reached.within c.len-depth.ensures (c.len.ensures ∙ ap (λ (w : WayView). length w.plan.levels) c.way.view_is) c.if-depth-len.false in
    let ends = c.stops_at.ensures.ends c.if-stops_at.true in
    let wanted = ap (λ (w : WayView). w.wanted) c.way.view_is in
    let within : c.args.way.now.wanted ≤ length c.args.keys.now = omega (arith, ends.1, wanted, c.len-depth.ensures) in
    walked_stopped c.args.way.now c.args.walk.now.found c.loop-met.walk.found c.args.keys.now c.args.iters.now c.loop-met.iters 0 c.args.moves.now c.loop-met.moves c.loop-met.met.key c.loop-met.met.turn inv.going c.enter.new.walk.found c.descend.new.walk.found c.descend.new.moves c.in_ok-stopped.stopped deeper within ends.0 at_key deep walked

pub returns-then-stops_at-clause-iters : goal.returns-then-stops_at-clause-iters
returns-then-stops_at-clause-iters g t c =
    let inv = c.loop-met.invariant in
    let at_key : c.loop-met.met.key < 2 ^ 128 - 1 = omega arith in
    let same : c.way.inside.plan.now ≡ c.args.way.now.plan = ap (λ (w : WayView). w.plan) c.way.view_is in
    c.close.ensures c.args.iters.now (closing_opened c.args.way.now c.way.inside.plan.now c.args.keys.now c.at_level.result.now c.args.iters.now c.loop-met.iters c.descend.new.iters c.len-depth.result c.loop-met.met.key c.loop-met.met.turn same c.at_level.ensures.value c.len-depth.ensures c.in_ok-stopped.ensures.iters (inv.going.stands at_key))

pub returns-then-stops_at-clause-known : goal.returns-then-stops_at-clause-known
returns-then-stops_at-clause-known g t c =
    let inv = c.loop-met.invariant in
    let at_key : c.loop-met.met.key < 2 ^ 128 - 1 = omega arith in
    let pushed : c.enter.new.keys ≡ c.args.keys.now ++ c.loop-met.met.key ∷ [] = c.in_ok-enter.ensures.keys ∙ ap (λ (ks : List ℕ). ks ++ c.loop-met.met.key ∷ []) inv.same in
    IsKnown-above c.args.way.now.plan.levels c.args.keys.now c.loop-met.met.key (values_in c.descend.new.walk.values.cells)
    (subst (λ (ks : List ℕ). IsKnown c.args.way.now.plan.levels ks (values_in c.descend.new.walk.values.cells)) pushed c.in_ok-stopped.ensures.known)

pub returns-then-stops_at-clause-back : goal.returns-then-stops_at-clause-back
returns-then-stops_at-clause-back g t c =
    let inv = c.loop-met.invariant in
    let at_key : c.loop-met.met.key < 2 ^ 128 - 1 = omega arith in
    let pushed : c.enter.new.keys ≡ c.args.keys.now ++ c.loop-met.met.key ∷ [] = c.in_ok-enter.ensures.keys ∙ ap (λ (ks : List ℕ). ks ++ c.loop-met.met.key ∷ []) inv.same in
    let back : c.pop.new.self ≡ c.args.keys.now = popped c.args.keys.now c.loop-met.met.key c.descend.new.keys c.pop.new.self (c.in_ok-stopped.ensures.back ∙ pushed) c.pop.ensures in
    back

pub returns-then-stops_at-clause-moves : goal.returns-then-stops_at-clause-moves
returns-then-stops_at-clause-moves g t c =
    omega (arith, c.loop-met.invariant.going.rises, c.descend.ensures.moves)

pub returns-in_err-met-clause-cost : goal.returns-in_err-met-clause-cost
returns-in_err-met-clause-cost g t c =
    let way : IsWay c.args.way.now = subst IsWay c.way.view_is c.way.invariant.0 in
    let deeper : length c.args.keys.now < length c.args.way.now.plan.levels = not_full c.args.keys.now c.args.way.now.plan.levels c.len-depth.result c.len.result c.requires.reached.within c.len-depth.ensures (c.len.ensures ∙ ap (λ (w : WayView). length w.plan.levels) c.way.view_is) c.if-depth-len.false in
    opened_cost c.args.way.now c.args.keys.now c.args.moves.now c.open.new.moves deeper c.open.ensures.within

pub returns-in_err-enter-clause-cost : goal.returns-in_err-enter-clause-cost
returns-in_err-enter-clause-cost g t c =
    let inv = c.loop-met.invariant in
    going_cost c.args.way.now c.args.walk.now.found c.loop-met.walk.found c.args.keys.now c.args.iters.now c.loop-met.iters 0 c.args.moves.now c.loop-met.moves c.loop-met.met.key c.loop-met.met.turn inv.going

pub returns-then-stops_at-clause-cost : goal.returns-then-stops_at-clause-cost
returns-then-stops_at-clause-cost g t c =
    let inv = c.loop-met.invariant in
    let at_key : c.loop-met.met.key < 2 ^ 128 - 1 = omega arith in
    let pushed : c.enter.new.keys ≡ c.args.keys.now ++ c.loop-met.met.key ∷ [] = c.in_ok-enter.ensures.keys ∙ ap (λ (ks : List ℕ). ks ++ c.loop-met.met.key ∷ []) inv.same in
    let below = subst (λ (ks : List ℕ). c.descend.new.moves ≤ c.loop-met.moves + cost_from (length c.args.way.now.body.absents) c.args.way.now.state c.args.way.now.plan.guides (drop (length ks) c.args.way.now.plan.levels) (length ks) (at ks)) pushed c.descend.ensures.cost in
    stopped_cost c.args.way.now c.args.walk.now.found c.loop-met.walk.found c.args.keys.now c.args.iters.now c.loop-met.iters 0 c.args.moves.now c.loop-met.moves c.loop-met.met.key c.loop-met.met.turn inv.going c.descend.new.moves c.descend.new.moves at_key below (λ level here. omega arith)

pub returns-in_err-stopped-clause-cost : goal.returns-in_err-stopped-clause-cost
returns-in_err-stopped-clause-cost g t c =
    let inv = c.loop-met.invariant in
    let at_key : c.loop-met.met.key < 2 ^ 128 - 1 = omega arith in
    let pushed : c.enter.new.keys ≡ c.args.keys.now ++ c.loop-met.met.key ∷ [] = c.in_ok-enter.ensures.keys ∙ ap (λ (ks : List ℕ). ks ++ c.loop-met.met.key ∷ []) inv.same in
    let below = subst (λ (ks : List ℕ). c.descend.new.moves ≤ c.loop-met.moves + cost_from (length c.args.way.now.body.absents) c.args.way.now.state c.args.way.now.plan.guides (drop (length ks) c.args.way.now.plan.levels) (length ks) (at ks)) pushed c.descend.ensures.cost in
    stopped_cost c.args.way.now c.args.walk.now.found c.loop-met.walk.found c.args.keys.now c.args.iters.now c.loop-met.iters 0 c.args.moves.now c.loop-met.moves c.loop-met.met.key c.loop-met.met.turn inv.going c.descend.new.moves c.descend.new.moves at_key below (λ level here. omega arith)

pub returns-in_err-met-2-clause-cost : goal.returns-in_err-met-2-clause-cost
returns-in_err-met-2-clause-cost g t c =
    let inv = c.loop-met.invariant in
    let at_key : c.loop-met.met.key < 2 ^ 128 - 1 = omega arith in
    let pushed : c.enter.new.keys ≡ c.args.keys.now ++ c.loop-met.met.key ∷ [] = c.in_ok-enter.ensures.keys ∙ ap (λ (ks : List ℕ). ks ++ c.loop-met.met.key ∷ []) inv.same in
    let back : c.pop.new.self ≡ c.args.keys.now = popped c.args.keys.now c.loop-met.met.key c.descend.new.keys c.pop.new.self (c.in_ok-stopped.ensures.back ∙ pushed) c.pop.ensures in
    let stay : c.descend.new.iters ≡ c.loop-met.iters = c.in_ok-stopped.ensures.iters in
    let below = subst (λ (ks : List ℕ). c.descend.new.moves ≤ c.loop-met.moves + cost_from (length c.args.way.now.body.absents) c.args.way.now.state c.args.way.now.plan.guides (drop (length ks) c.args.way.now.plan.levels) (length ks) (at ks)) pushed c.descend.ensures.cost in
    stopped_cost c.args.way.now c.args.walk.now.found c.loop-met.walk.found c.args.keys.now c.args.iters.now c.loop-met.iters 0 c.args.moves.now c.loop-met.moves c.loop-met.met.key c.loop-met.met.turn inv.going c.descend.new.moves c.next_key.new.moves at_key below
    (moves_on c.args.way.now c.loop-met.met.key c.loop-met.met.turn c.descend.new.moves c.next_key.new.moves c.pop.new.self c.args.keys.now c.descend.new.iters c.loop-met.iters back stay c.next_key.ensures.within)
