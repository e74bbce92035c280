use Rattle.std.proofs.Common.{◌≡◌, ℕ, ◌+◌, ◌-◌, ◌^◌, ◌<◌, ◌≤◌, [], List, length, slice_get, Some, sym, ◌∙◌, subst, arith}
use Rattle.lt_leap.specs.Potential.{join_cost}
use Rattle.lt_model.specs.Answers.{Values}
use Rattle.lt_query.specs.declared.plans.Level.{Level}
use Rattle.lt_join.specs.Cost.{iterators_at}
use Rattle.lt_join.specs.Holders.{IsUsable, atoms_at}
use Rattle.lt_join.specs.Known.{IsKnown}
use Rattle.lt_join.specs.Level.{AreAtomsAt}
use Rattle.lt_join.specs.Narrowed.{Leaves}
use Rattle.lt_join.specs.Values.{values_in}
use Rattle.lt_join.specs.Walked.{at}
use Rattle.lt_join.specs.Way.{IsWay}
use Rattle.lt_join.proofs.Entered.{entered}
use Rattle.lt_join.proofs.Going.{usable_level, going_begun, going_more, going_none, going_cell, going_fits, goes_on, moves_on, stands_still, low_cell, opens_at_root, right_none, reached_none, going_cost, stopped_cost, opened_cost}
use Rattle.lt_join.proofs.Known.{IsKnown-root}
use Rattle.lt_face.specs.Lists.{IsIn}
use Rattle.lt_face.specs.State.{Row}
use Rattle.lt_join.proofs.KnownLists.{walkable_all}
use Rattle.lt_join.proofs.PartLaws.{within_more, at_most_paid, part_found}
use Rattle.lt_join.proofs.ranging.explore_keys.Goals as goal

pub range_below-range-requires-clause-known : goal.range_below-range-requires-clause-known
range_below-range-requires-clause-known g c =
    subst (λ (ks : List ℕ). IsKnown c.args.way.now.plan.levels ks (values_in c.new-walk.result.values.cells)) (sym c.root-keys.ensures) (subst (λ (vs : Values). IsKnown c.args.way.now.plan.levels [] vs) (sym c.new-walk.ensures.values) (IsKnown-root c.args.way.now.plan.levels))

pub open-requires-clause-leaves : goal.open-requires-clause-leaves
open-requires-clause-leaves g c = c.range_below-range.ensures.leaves

pub open-requires-clause-low : goal.open-requires-clause-low
open-requires-clause-low g c = c.range_below-range.ensures.low

pub open-requires-clause-iters : goal.open-requires-clause-iters
open-requires-clause-iters g c =
    subst (λ (ks : List ℕ). AreAtomsAt c.args.way.now.plan c.args.way.now.state ks c.args.iters.now) (sym c.root-keys.ensures) c.requires.iters

pub open-requires-clause-known : goal.open-requires-clause-known
open-requires-clause-known g c =
    subst (λ (ks : List ℕ). IsKnown c.args.way.now.plan.levels ks (values_in c.new-walk.result.values.cells)) (sym c.root-keys.ensures) (subst (λ (vs : Values). IsKnown c.args.way.now.plan.levels [] vs) (sym c.new-walk.ensures.values) (IsKnown-root c.args.way.now.plan.levels))

pub open-requires-clause-usable : goal.open-requires-clause-usable
open-requires-clause-usable g c =
    let way : IsWay c.args.way.now = subst IsWay c.way.view_is c.way.invariant.0 in
    let deeper = c.requires.has_levels in
    subst (λ (ks : List ℕ). (level : Level) × (slice_get c.args.way.now.plan.levels (length ks) ≡ Some level) × IsUsable c.args.way.now.plan.guides level ks) (sym c.root-keys.ensures)
    (usable_level c.args.way.now c.new-walk.result.found.sense [] way (reached_none c.args.way.now c.new-walk.result.found.sense way) deeper)

pub open-requires-clause-tight : goal.open-requires-clause-tight
open-requires-clause-tight g c =
    (right_none c.args.way.now c.new-walk.result.found c.new-walk.ensures.sense c.new-walk.ensures.rows).tight

pub loop-met-init : goal.loop-met-init
loop-met-init g c =
    let way : IsWay c.args.way.now = subst IsWay c.way.view_is c.way.invariant.0 in
    let deeper = c.requires.has_levels in
    record {
      at_root = c.root-keys.ensures;
      known = subst (λ (vs : Values). IsKnown c.args.way.now.plan.levels [] vs) (sym c.new-walk.ensures.values) (IsKnown-root c.args.way.now.plan.levels);
      within = λ row there. absurd (subst (λ (rows : List Row). IsIn row rows) c.new-walk.ensures.rows there);
      going = (going_none c.args.way.now c.new-walk.result.found (record { sense = c.open.new.sense; rows = c.new-walk.result.found.rows }) [] c.args.iters.now c.open.new.iters c.args.lo c.args.moves.now c.open.new.moves c.in_ok-met.met.key c.in_ok-met.met.turn c.new-walk.ensures.sense c.new-walk.ensures.rows
          (going_begun c.args.way.now c.new-walk.result.found c.open.new.sense [] c.args.iters.now c.open.new.iters c.args.lo c.args.moves.now c.open.new.moves c.in_ok-met.met.key c.in_ok-met.met.turn deeper (right_none c.args.way.now c.new-walk.result.found c.new-walk.ensures.sense c.new-walk.ensures.rows) (opens_at_root c.args.way.now c.new-walk.result.found.sense c.open.new.sense c.args.iters.now c.open.new.iters c.args.lo c.args.moves.now c.open.new.moves c.in_ok-met.met.key c.in_ok-met.met.turn c.root-keys.result c.root-keys.ensures c.in_ok-met.ensures.gone)));
    }

pub explore_key-requires-clause-at_root : goal.explore_key-requires-clause-at_root
explore_key-requires-clause-at_root g c =
    c.loop-met.invariant.at_root

pub explore_key-requires-clause-has_levels : goal.explore_key-requires-clause-has_levels
explore_key-requires-clause-has_levels g c =
    let deeper = c.requires.has_levels in
    deeper

pub explore_key-requires-clause-iters : goal.explore_key-requires-clause-iters
explore_key-requires-clause-iters g c =
    let way : IsWay c.args.way.now = subst IsWay c.way.view_is c.way.invariant.0 in
    let inv = c.loop-met.invariant in
    let at_key : c.loop-met.met.key < 2 ^ 128 - 1 = omega arith in
    entered c.args.way.now.plan c.args.way.now.state [] (walkable_all c.args.way.now.body c.args.way.now.plan way.of_body) c.args.iters.now c.loop-met.iters c.loop-met.met.key c.loop-met.met.turn (inv.going.stands at_key)

pub explore_key-requires-clause-cell : goal.explore_key-requires-clause-cell
explore_key-requires-clause-cell g c =
    let inv = c.loop-met.invariant in
    let at_key : c.loop-met.met.key < 2 ^ 128 - 1 = omega arith in
    going_cell c.args.way.now (record { sense = record { gaps = []; hits = [] }; rows = [] }) c.loop-met.walk.found [] c.args.iters.now c.loop-met.iters c.args.lo c.args.moves.now c.loop-met.moves c.loop-met.met.key c.loop-met.met.turn inv.going at_key

pub explore_key-requires-clause-fits : goal.explore_key-requires-clause-fits
explore_key-requires-clause-fits g c =
    let inv = c.loop-met.invariant in
    let at_key : c.loop-met.met.key < 2 ^ 128 - 1 = omega arith in
    going_fits c.args.way.now (record { sense = record { gaps = []; hits = [] }; rows = [] }) c.loop-met.walk.found [] c.args.iters.now c.loop-met.iters c.args.lo c.args.moves.now c.loop-met.moves c.loop-met.met.key c.loop-met.met.turn inv.going at_key

pub explore_key-requires-clause-all : goal.explore_key-requires-clause-all
explore_key-requires-clause-all g c =
    c.requires.all

pub explore_key-requires-clause-reached : goal.explore_key-requires-clause-reached
explore_key-requires-clause-reached g c =
    let way : IsWay c.args.way.now = subst IsWay c.way.view_is c.way.invariant.0 in
    reached_none c.args.way.now c.loop-met.walk.found.sense way

pub explore_key-requires-clause-known : goal.explore_key-requires-clause-known
explore_key-requires-clause-known g c =
    c.loop-met.invariant.known

pub explore_key-requires-clause-right : goal.explore_key-requires-clause-right
explore_key-requires-clause-right g c =
    c.loop-met.invariant.going.done.right

pub next_key-requires-clause-tight : goal.next_key-requires-clause-tight
next_key-requires-clause-tight g c =
    c.in_ok-explore_key.ensures.below.right.tight

pub next_key-requires-clause-usable : goal.next_key-requires-clause-usable
next_key-requires-clause-usable g c =
    let way : IsWay c.args.way.now = subst IsWay c.way.view_is c.way.invariant.0 in
    let deeper = c.requires.has_levels in
    subst (λ (ks : List ℕ). (level : Level) × (slice_get c.args.way.now.plan.levels (length ks) ≡ Some level) × IsUsable c.args.way.now.plan.guides level ks) (sym (c.in_ok-explore_key.ensures.back))
    (usable_level c.args.way.now c.new-walk.result.found.sense [] way (reached_none c.args.way.now c.new-walk.result.found.sense way) deeper)

pub next_key-requires-clause-leaves : goal.next_key-requires-clause-leaves
next_key-requires-clause-leaves g c =
    subst (λ (ks : List ℕ). Leaves c.args.way.now.body c.args.way.now.plan.levels ks c.range_below-range.result) (c.root-keys.ensures ∙ sym c.in_ok-explore_key.ensures.back) c.range_below-range.ensures.leaves

pub next_key-requires-clause-ahead : goal.next_key-requires-clause-ahead
next_key-requires-clause-ahead g c = c.range_below-range.ensures.low

pub next_key-requires-clause-at : goal.next_key-requires-clause-at
next_key-requires-clause-at g c =
    let inv = c.loop-met.invariant in
    let at_key : c.loop-met.met.key < 2 ^ 128 - 1 = omega arith in
    (c.args.iters.now, stands_still c.args.way.now c.loop-met.met.key c.loop-met.met.turn c.explore_key.new.keys [] c.explore_key.new.iters c.args.iters.now c.loop-met.iters (c.in_ok-explore_key.ensures.back) c.in_ok-explore_key.ensures.iters (inv.going.stands at_key))

pub next_key-requires-clause-low : goal.next_key-requires-clause-low
next_key-requires-clause-low g c =
    let inv = c.loop-met.invariant in
    let at_key : c.loop-met.met.key < 2 ^ 128 - 1 = omega arith in
    low_cell c.loop-met.met.key (going_cell c.args.way.now (record { sense = record { gaps = []; hits = [] }; rows = [] }) c.loop-met.walk.found [] c.args.iters.now c.loop-met.iters c.args.lo c.args.moves.now c.loop-met.moves c.loop-met.met.key c.loop-met.met.turn inv.going at_key)

pub loop-met-preserved : goal.loop-met-preserved
loop-met-preserved g c =
    let inv = c.loop-met.invariant in
    let at_key : c.loop-met.met.key < 2 ^ 128 - 1 = omega arith in
    let made = c.in_ok-explore_key.ensures in
    record {
      at_root = made.back;
      known = made.known;
      within = within_more c.args.way.now.terms c.args.way.now.body c.args.way.now.plan c.args.way.now.state c.args.lo c.args.hi c.loop-met.met.key c.loop-met.walk.found c.explore_key.new.walk.found inv.going.reaches (omega arith) made.below.under inv.within;
      going = (going_more c.args.way.now (record { sense = record { gaps = []; hits = [] }; rows = [] }) c.loop-met.walk.found c.explore_key.new.walk.found c.next_key.new.sense [] c.args.iters.now c.loop-met.iters c.next_key.new.iters c.args.lo c.args.moves.now c.loop-met.moves c.explore_key.new.moves c.next_key.new.moves c.loop-met.met.key c.loop-met.met.turn c.in_ok-met-2.met.key c.in_ok-met-2.met.turn
          inv.going at_key made.below c.explore_key.ensures.cost c.explore_key.ensures.moves (goes_on c.args.way.now c.explore_key.new.walk.found.sense c.next_key.new.sense c.next_key.new.iters c.loop-met.met.key c.loop-met.met.turn c.explore_key.new.moves c.next_key.new.moves c.in_ok-met-2.met.key c.in_ok-met-2.met.turn c.explore_key.new.keys [] c.explore_key.new.iters c.args.iters.now c.loop-met.iters (c.in_ok-explore_key.ensures.back) c.in_ok-explore_key.ensures.iters c.in_ok-met-2.ensures.gone (inv.going.stands at_key)));
    }

pub loop-met-smaller : goal.loop-met-smaller
loop-met-smaller g c =
    let inv = c.loop-met.invariant in
    let at_key : c.loop-met.met.key < 2 ^ 128 - 1 = omega arith in
    let went = goes_on c.args.way.now c.explore_key.new.walk.found.sense c.next_key.new.sense c.next_key.new.iters c.loop-met.met.key c.loop-met.met.turn c.explore_key.new.moves c.next_key.new.moves c.in_ok-met-2.met.key c.in_ok-met-2.met.turn c.explore_key.new.keys [] c.explore_key.new.iters c.args.iters.now c.loop-met.iters (c.in_ok-explore_key.ensures.back) c.in_ok-explore_key.ensures.iters c.in_ok-met-2.ensures.gone (inv.going.stands at_key) inv.going.level inv.going.here (inv.going.done.at_key at_key).1 in
    let reaches = went.reaches in
    omega (arith, reaches)

pub returns-clause-part : goal.returns-clause-part
returns-clause-part g c =
    let inv = c.loop-met.invariant in
    let way : IsWay c.args.way.now = subst IsWay c.way.view_is c.way.invariant.0 in
    let deeper = c.requires.has_levels in
    part_found c.args.way.now way.of_body deeper c.requires.tests (record { sense = record { gaps = []; hits = [] }; rows = [] }) c.loop-met.walk.found inv.going.level c.args.lo c.args.hi c.loop-met.met.key
    (omega arith) inv.going.done c.requires.whole c.requires.heads inv.within

pub returns-clause-few : goal.returns-clause-few
returns-clause-few g c =
    let inv = c.loop-met.invariant in
    at_most_paid (length (atoms_at c.args.way.now.plan.guides 0)) c.loop-met.walk.found.sense c.args.moves.now c.loop-met.moves c.loop-met.met.key inv.going.credited

pub returns-clause-cost : goal.returns-clause-cost
returns-clause-cost g c =
    let inv = c.loop-met.invariant in
    (going_cost c.args.way.now (record { sense = record { gaps = []; hits = [] }; rows = [] }) c.loop-met.walk.found [] c.args.iters.now c.loop-met.iters c.args.lo c.args.moves.now c.loop-met.moves c.loop-met.met.key c.loop-met.met.turn inv.going)

pub returns-in_err-met-clause-cost : goal.returns-in_err-met-clause-cost
returns-in_err-met-clause-cost g c =
    let deeper = c.requires.has_levels in
    (opened_cost c.args.way.now [] c.args.moves.now c.open.new.moves deeper
    (subst (λ (ks : List ℕ). (level : Level) → slice_get c.args.way.now.plan.levels (length ks) ≡ Some level → c.open.new.moves ≤ c.args.moves.now + join_cost (iterators_at c.args.way.now.state c.args.way.now.plan.guides level (length ks) (at ks))) c.root-keys.ensures c.open.ensures.within))

pub returns-in_err-explore_key-clause-cost : goal.returns-in_err-explore_key-clause-cost
returns-in_err-explore_key-clause-cost g c =
    let inv = c.loop-met.invariant in
    let at_key : c.loop-met.met.key < 2 ^ 128 - 1 = omega arith in
    (stopped_cost c.args.way.now (record { sense = record { gaps = []; hits = [] }; rows = [] }) c.loop-met.walk.found [] c.args.iters.now c.loop-met.iters c.args.lo c.args.moves.now c.loop-met.moves c.loop-met.met.key c.loop-met.met.turn inv.going c.explore_key.new.moves c.explore_key.new.moves at_key c.explore_key.ensures.cost (λ level here. omega arith))

pub returns-in_err-met-2-clause-cost : goal.returns-in_err-met-2-clause-cost
returns-in_err-met-2-clause-cost g c =
    let inv = c.loop-met.invariant in
    let at_key : c.loop-met.met.key < 2 ^ 128 - 1 = omega arith in
    (stopped_cost c.args.way.now (record { sense = record { gaps = []; hits = [] }; rows = [] }) c.loop-met.walk.found [] c.args.iters.now c.loop-met.iters c.args.lo c.args.moves.now c.loop-met.moves c.loop-met.met.key c.loop-met.met.turn inv.going c.explore_key.new.moves c.next_key.new.moves at_key c.explore_key.ensures.cost
    (moves_on c.args.way.now c.loop-met.met.key c.loop-met.met.turn c.explore_key.new.moves c.next_key.new.moves c.explore_key.new.keys [] c.explore_key.new.iters c.loop-met.iters (c.in_ok-explore_key.ensures.back) c.in_ok-explore_key.ensures.iters c.next_key.ensures.within))
