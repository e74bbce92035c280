use Rattle.std.proofs.Common.{◌≡◌, ℕ, ◌+◌, ◌-◌, ◌^◌, ◌<◌, ◌≤◌, ◌++◌, ◌∷◌, [], List, length, slice_get, Some, refl, sym, ap, ◌∙◌, subst, arith}
use Rattle.std.specs.List.{AllByRecursion}
use Rattle.lt_leap.specs.Potential.{join_cost}
use Rattle.lt_model.specs.Answers.{Values}
use Rattle.lt_query.specs.declared.plans.Level.{Level}
use Rattle.lt_sense.specs.Kept.{Sense}
use Rattle.lt_sense.specs.ByKey.{ByKey, KeySense}
use Rattle.lt_sense.specs.Sense.{IsTight}
use Rattle.lt_join.specs.Cost.{iterators_at}
use Rattle.lt_join.specs.Holders.{IsUsable, atoms_at}
use Rattle.lt_join.specs.Known.{IsKnown}
use Rattle.lt_join.specs.Level.{AreAtomsAt}
use Rattle.lt_join.specs.Narrowed.{Leaves}
use Rattle.lt_join.specs.Sliced.{united}
use Rattle.lt_join.specs.Slices.{AreKeyed, slices_of}
use Rattle.lt_join.specs.Values.{values_in}
use Rattle.lt_join.specs.Walked.{at}
use Rattle.lt_join.specs.Way.{IsWay}
use Rattle.lt_join.proofs.Entered.{entered}
use Rattle.lt_join.proofs.Going.{usable_level, goes_on, moves_on, stands_still, low_cell, opens_at_root, reached_none, opened_cost}
use Rattle.lt_join.proofs.GoingByKey.{slice_fits, gathered_all, gathering_cost, slice_cost}
use Rattle.lt_join.proofs.HandedKeys.{begun_onto, more_onto, opened_root, went_root}
use Rattle.lt_join.proofs.Keyed.{keyed_none, keys_of_slices}
use Rattle.lt_join.proofs.Known.{IsKnown-root}
use Rattle.lt_join.proofs.KnownLists.{walkable_all}
use Rattle.lt_join.proofs.PartLaws.{at_most_paid}
use Rattle.lt_join.proofs.slicing.gather_keys.Goals as goal

pub range_below-range-requires-clause-known : goal.range_below-range-requires-clause-known
range_below-range-requires-clause-known g c =
    subst (λ (ks : List ℕ). IsKnown c.args.way.now.plan.levels ks (values_in c.none-values.result.cells)) (sym c.root-keys.ensures) (subst (λ (vs : Values). IsKnown c.args.way.now.plan.levels [] vs) (sym c.none-values.ensures) (IsKnown-root c.args.way.now.plan.levels))

pub open-requires-clause-leaves : goal.open-requires-clause-leaves
open-requires-clause-leaves g c = c.range_below-range.ensures.leaves

pub open-requires-clause-low : goal.open-requires-clause-low
open-requires-clause-low g c = c.range_below-range.ensures.low

pub open-requires-clause-iters : goal.open-requires-clause-iters
open-requires-clause-iters g c =
    subst (λ (ks : List ℕ). AreAtomsAt c.args.way.now.plan c.args.way.now.state ks c.args.iters.now) (sym c.root-keys.ensures) c.requires.iters

pub open-requires-clause-known : goal.open-requires-clause-known
open-requires-clause-known g c =
    subst (λ (ks : List ℕ). IsKnown c.args.way.now.plan.levels ks (values_in c.none-values.result.cells)) (sym c.root-keys.ensures) (subst (λ (vs : Values). IsKnown c.args.way.now.plan.levels [] vs) (sym c.none-values.ensures) (IsKnown-root c.args.way.now.plan.levels))

pub open-requires-clause-usable : goal.open-requires-clause-usable
open-requires-clause-usable g c =
    let way : IsWay c.args.way.now = subst IsWay c.way.view_is c.way.invariant.0 in
    let deeper = c.requires.has_levels in
    subst (λ (ks : List ℕ). (level : Level) × (slice_get c.args.way.now.plan.levels (length ks) ≡ Some level) × IsUsable c.args.way.now.plan.guides level ks) (sym c.root-keys.ensures)
    (usable_level c.args.way.now c.none-noted.result [] way (reached_none c.args.way.now c.none-noted.result way) deeper)

pub open-requires-clause-tight : goal.open-requires-clause-tight
open-requires-clause-tight g c =
    subst (λ (s : Sense). IsTight s c.args.way.now.state) (sym c.none-noted.ensures) (record { gaps = tt; hits = tt })

pub hand_over-requires : goal.hand_over-requires
hand_over-requires g c =
    opened_root c.args.way.now c.none-noted.result c.open.new.sense c.args.iters.now c.open.new.iters c.args.lo c.args.moves.now c.open.new.moves c.in_ok-met.met.key c.in_ok-met.met.turn c.requires.has_levels c.none-noted.ensures
    (opens_at_root c.args.way.now c.none-noted.result c.open.new.sense c.args.iters.now c.open.new.iters c.args.lo c.args.moves.now c.open.new.moves c.in_ok-met.met.key c.in_ok-met.met.turn c.root-keys.result c.root-keys.ensures c.in_ok-met.ensures.gone)

pub loop-met-init : goal.loop-met-init
loop-met-init g c =
    let no_slices : c.hand_over.new.sense.slices ≡ [] = c.in_ok-noted.ensures.slices ∙ ap (λ (b : ByKey). b.slices) c.new-sense.ensures in
    record {
      at_root = c.root-keys.ensures;
      none = c.in_ok-noted.ensures.none;
      keyed = keyed_none c.hand_over.new.sense.slices c.new-rows.result.items no_slices c.new-rows.ensures.items;
      gathering = begun_onto c.args.way.now c.none-noted.result c.open.new.sense c.args.iters.now c.open.new.iters c.args.lo c.args.moves.now c.open.new.moves c.in_ok-met.met.key c.in_ok-met.met.turn c.requires.has_levels c.none-noted.ensures
          (opens_at_root c.args.way.now c.none-noted.result c.open.new.sense c.args.iters.now c.open.new.iters c.args.lo c.args.moves.now c.open.new.moves c.in_ok-met.met.key c.in_ok-met.met.turn c.root-keys.result c.root-keys.ensures c.in_ok-met.ensures.gone)
          c.new-sense.result.root c.hand_over.new.sense.root (slices_of c.new-rows.result.items c.hand_over.new.sense.slices) c.args.hi (ap (λ (b : ByKey). b.root) c.new-sense.ensures) (ap (slices_of c.new-rows.result.items) no_slices) c.in_ok-noted.ensures.gaps c.in_ok-noted.ensures.hits;
    }

pub slice_at-requires-clause-at_root : goal.slice_at-requires-clause-at_root
slice_at-requires-clause-at_root g c =
    c.loop-met.invariant.at_root

pub slice_at-requires-clause-has_levels : goal.slice_at-requires-clause-has_levels
slice_at-requires-clause-has_levels g c =
    let deeper = c.requires.has_levels in
    deeper

pub slice_at-requires-clause-iters : goal.slice_at-requires-clause-iters
slice_at-requires-clause-iters g c =
    let way : IsWay c.args.way.now = subst IsWay c.way.view_is c.way.invariant.0 in
    let inv = c.loop-met.invariant in
    let at_key : c.loop-met.met.key < 2 ^ 128 - 1 = omega arith in
    entered c.args.way.now.plan c.args.way.now.state [] (walkable_all c.args.way.now.body c.args.way.now.plan way.of_body) c.args.iters.now c.loop-met.iters c.loop-met.met.key c.loop-met.met.turn (inv.gathering.stands at_key)

pub slice_at-requires-clause-cell : goal.slice_at-requires-clause-cell
slice_at-requires-clause-cell g c =
    let inv = c.loop-met.invariant in
    let at_key : c.loop-met.met.key < 2 ^ 128 - 1 = omega arith in
    (inv.gathering.sliced.at_key at_key).0

pub slice_at-requires-clause-fits : goal.slice_at-requires-clause-fits
slice_at-requires-clause-fits g c =
    let inv = c.loop-met.invariant in
    let at_key : c.loop-met.met.key < 2 ^ 128 - 1 = omega arith in
    slice_fits c.args.way.now c.loop-met.sense.root (slices_of c.loop-met.rows.items c.loop-met.sense.slices) c.args.iters.now c.loop-met.iters c.args.lo c.args.hi c.args.moves.now c.loop-met.moves c.loop-met.met.key c.loop-met.met.turn inv.gathering at_key

pub slice_at-requires-clause-all : goal.slice_at-requires-clause-all
slice_at-requires-clause-all g c =
    c.requires.all

pub slice_at-requires-clause-tests : goal.slice_at-requires-clause-tests
slice_at-requires-clause-tests g c =
    c.requires.tests

pub slice_at-requires-clause-heads : goal.slice_at-requires-clause-heads
slice_at-requires-clause-heads g c =
    c.requires.heads

pub slice_at-requires-clause-whole : goal.slice_at-requires-clause-whole
slice_at-requires-clause-whole g c = c.requires.whole

pub add_slice-requires-clause-keyed : goal.add_slice-requires-clause-keyed
add_slice-requires-clause-keyed g c = c.loop-met.invariant.keyed

pub add_slice-requires-clause-above : goal.add_slice-requires-clause-above
add_slice-requires-clause-above g c =
    subst (AllByRecursion (λ k. k < c.loop-met.met.key)) (keys_of_slices c.loop-met.rows.items c.loop-met.sense.slices) c.loop-met.invariant.gathering.sliced.below

pub next_key-requires-clause-leaves : goal.next_key-requires-clause-leaves
next_key-requires-clause-leaves g c =
    subst (λ (ks : List ℕ). Leaves c.args.way.now.body c.args.way.now.plan.levels ks c.range_below-range.result) (c.root-keys.ensures ∙ sym c.in_ok-found.ensures.back) c.range_below-range.ensures.leaves

pub next_key-requires-clause-ahead : goal.next_key-requires-clause-ahead
next_key-requires-clause-ahead g c = c.range_below-range.ensures.low

pub next_key-requires-clause-tight : goal.next_key-requires-clause-tight
next_key-requires-clause-tight g c =
    subst (λ (s : Sense). IsTight s c.args.way.now.state) (sym c.loop-met.invariant.none) (record { gaps = tt; hits = tt })

pub next_key-requires-clause-usable : goal.next_key-requires-clause-usable
next_key-requires-clause-usable g c =
    let way : IsWay c.args.way.now = subst IsWay c.way.view_is c.way.invariant.0 in
    let deeper = c.requires.has_levels in
    subst (λ (ks : List ℕ). (level : Level) × (slice_get c.args.way.now.plan.levels (length ks) ≡ Some level) × IsUsable c.args.way.now.plan.guides level ks) (sym (c.in_ok-found.ensures.back))
    (usable_level c.args.way.now c.none-noted.result [] way (reached_none c.args.way.now c.none-noted.result way) deeper)

pub next_key-requires-clause-at : goal.next_key-requires-clause-at
next_key-requires-clause-at g c =
    let inv = c.loop-met.invariant in
    let at_key : c.loop-met.met.key < 2 ^ 128 - 1 = omega arith in
    (c.args.iters.now, stands_still c.args.way.now c.loop-met.met.key c.loop-met.met.turn c.slice_at.new.keys [] c.slice_at.new.iters c.args.iters.now c.loop-met.iters (c.in_ok-found.ensures.back) c.in_ok-found.ensures.iters (inv.gathering.stands at_key))

pub next_key-requires-clause-low : goal.next_key-requires-clause-low
next_key-requires-clause-low g c =
    let inv = c.loop-met.invariant in
    let at_key : c.loop-met.met.key < 2 ^ 128 - 1 = omega arith in
    low_cell c.loop-met.met.key ((inv.gathering.sliced.at_key at_key).0)

pub hand_over-requires-in-loop-met : goal.hand_over-requires-in-loop-met
hand_over-requires-in-loop-met g c =
    let inv = c.loop-met.invariant in
    let at_key : c.loop-met.met.key < 2 ^ 128 - 1 = omega arith in
    went_root c.args.way.now c.loop-met.noted c.next_key.new.sense c.loop-met.sense.root (slices_of c.loop-met.rows.items c.loop-met.sense.slices) c.args.iters.now c.loop-met.iters c.args.lo c.args.hi c.args.moves.now c.loop-met.moves c.loop-met.met.key c.loop-met.met.turn inv.gathering c.next_key.new.iters c.slice_at.new.moves c.next_key.new.moves c.in_ok-met-2.met.key c.in_ok-met-2.met.turn at_key inv.none
    (goes_on c.args.way.now c.loop-met.noted c.next_key.new.sense c.next_key.new.iters c.loop-met.met.key c.loop-met.met.turn c.slice_at.new.moves c.next_key.new.moves c.in_ok-met-2.met.key c.in_ok-met-2.met.turn c.slice_at.new.keys [] c.slice_at.new.iters c.args.iters.now c.loop-met.iters (c.in_ok-found.ensures.back) c.in_ok-found.ensures.iters c.in_ok-met-2.ensures.gone (inv.gathering.stands at_key))

pub loop-met-preserved : goal.loop-met-preserved
loop-met-preserved g c =
    let inv = c.loop-met.invariant in
    let at_key : c.loop-met.met.key < 2 ^ 128 - 1 = omega arith in
    let made = c.in_ok-found.ensures in
    let same : c.hand_over-in-loop-met.new.sense.slices ≡ c.add_slice.new.sense.slices = c.in_ok-noted-2.ensures.slices in
    let pushed : slices_of c.add_slice.new.rows.items c.hand_over-in-loop-met.new.sense.slices ≡ slices_of c.loop-met.rows.items c.loop-met.sense.slices ++ record { key = c.loop-met.met.key; rows = c.in_ok-found.found; sense = c.in_ok-found.part } ∷ [] =
    ap (slices_of c.add_slice.new.rows.items) same ∙ c.in_ok-add_slice.ensures.slices in
    let gaps : c.hand_over-in-loop-met.new.sense.root.gaps ≡ c.loop-met.sense.root.gaps ++ c.next_key.new.sense.gaps = c.in_ok-noted-2.ensures.gaps ∙ ap (λ (s : Sense). s.gaps ++ c.next_key.new.sense.gaps) c.in_ok-add_slice.ensures.root in
    let hits : c.hand_over-in-loop-met.new.sense.root.hits ≡ c.loop-met.sense.root.hits = c.in_ok-noted-2.ensures.hits ∙ ap (λ (s : Sense). s.hits) c.in_ok-add_slice.ensures.root in
    record {
      at_root = made.back;
      none = c.in_ok-noted-2.ensures.none;
      keyed = subst (λ (ss : List KeySense). AreKeyed ss c.add_slice.new.rows.items) (sym same) c.in_ok-add_slice.ensures.keyed;
      gathering = more_onto c.args.way.now c.loop-met.noted c.next_key.new.sense c.loop-met.sense.root (slices_of c.loop-met.rows.items c.loop-met.sense.slices) c.args.iters.now c.loop-met.iters c.args.lo c.args.hi c.args.moves.now c.loop-met.moves c.loop-met.met.key c.loop-met.met.turn inv.gathering c.next_key.new.iters c.slice_at.new.moves c.next_key.new.moves c.in_ok-met-2.met.key c.in_ok-met-2.met.turn at_key inv.none
          (goes_on c.args.way.now c.loop-met.noted c.next_key.new.sense c.next_key.new.iters c.loop-met.met.key c.loop-met.met.turn c.slice_at.new.moves c.next_key.new.moves c.in_ok-met-2.met.key c.in_ok-met-2.met.turn c.slice_at.new.keys [] c.slice_at.new.iters c.args.iters.now c.loop-met.iters (c.in_ok-found.ensures.back) c.in_ok-found.ensures.iters c.in_ok-met-2.ensures.gone (inv.gathering.stands at_key))
          c.hand_over-in-loop-met.new.sense.root (slices_of c.add_slice.new.rows.items c.hand_over-in-loop-met.new.sense.slices) (record { key = c.loop-met.met.key; rows = c.in_ok-found.found; sense = c.in_ok-found.part }) (omega arith) gaps hits pushed refl made.slice made.gaps made.hits c.slice_at.ensures.cost c.slice_at.ensures.moves;
    }

pub loop-met-smaller : goal.loop-met-smaller
loop-met-smaller g c =
    let inv = c.loop-met.invariant in
    let at_key : c.loop-met.met.key < 2 ^ 128 - 1 = omega arith in
    let went = (goes_on c.args.way.now c.loop-met.noted c.next_key.new.sense c.next_key.new.iters c.loop-met.met.key c.loop-met.met.turn c.slice_at.new.moves c.next_key.new.moves c.in_ok-met-2.met.key c.in_ok-met-2.met.turn c.slice_at.new.keys [] c.slice_at.new.iters c.args.iters.now c.loop-met.iters (c.in_ok-found.ensures.back) c.in_ok-found.ensures.iters c.in_ok-met-2.ensures.gone (inv.gathering.stands at_key)) inv.gathering.level inv.gathering.here (inv.gathering.sliced.at_key at_key).1 in
    let reaches = went.reaches in
    omega (arith, reaches)

pub returns-clause-slices : goal.returns-clause-slices
returns-clause-slices g c =
    gathered_all c.args.way.now c.loop-met.sense.root (slices_of c.loop-met.rows.items c.loop-met.sense.slices) c.args.iters.now c.loop-met.iters c.args.lo c.args.hi c.args.moves.now c.loop-met.moves c.loop-met.met.key c.loop-met.met.turn c.loop-met.invariant.gathering (omega arith)

pub returns-clause-few : goal.returns-clause-few
returns-clause-few g c =
    at_most_paid (length (atoms_at c.args.way.now.plan.guides 0)) (united c.loop-met.sense.root (slices_of c.loop-met.rows.items c.loop-met.sense.slices)) c.args.moves.now c.loop-met.moves c.loop-met.met.key c.loop-met.invariant.gathering.credited

pub returns-clause-keyed : goal.returns-clause-keyed
returns-clause-keyed g c = c.loop-met.invariant.keyed

pub returns-clause-cost : goal.returns-clause-cost
returns-clause-cost g c = gathering_cost c.args.way.now c.loop-met.sense.root (slices_of c.loop-met.rows.items c.loop-met.sense.slices) c.args.iters.now c.loop-met.iters c.args.lo c.args.hi c.args.moves.now c.loop-met.moves c.loop-met.met.key c.loop-met.met.turn c.loop-met.invariant.gathering

pub returns-in_err-met-clause-cost : goal.returns-in_err-met-clause-cost
returns-in_err-met-clause-cost g c =
    opened_cost c.args.way.now [] c.args.moves.now c.open.new.moves c.requires.has_levels
    (subst (λ (ks : List ℕ). (level : Level) → slice_get c.args.way.now.plan.levels (length ks) ≡ Some level → c.open.new.moves ≤ c.args.moves.now + join_cost (iterators_at c.args.way.now.state c.args.way.now.plan.guides level (length ks) (at ks))) c.root-keys.ensures c.open.ensures.within)

pub returns-in_err-noted-clause-cost : goal.returns-in_err-noted-clause-cost
returns-in_err-noted-clause-cost g c =
    opened_cost c.args.way.now [] c.args.moves.now c.open.new.moves c.requires.has_levels
    (subst (λ (ks : List ℕ). (level : Level) → slice_get c.args.way.now.plan.levels (length ks) ≡ Some level → c.open.new.moves ≤ c.args.moves.now + join_cost (iterators_at c.args.way.now.state c.args.way.now.plan.guides level (length ks) (at ks))) c.root-keys.ensures c.open.ensures.within)

pub returns-in_err-found-clause-cost : goal.returns-in_err-found-clause-cost
returns-in_err-found-clause-cost g c =
    let at_key : c.loop-met.met.key < 2 ^ 128 - 1 = omega arith in
    slice_cost c.args.way.now c.loop-met.sense.root (slices_of c.loop-met.rows.items c.loop-met.sense.slices) c.args.iters.now c.loop-met.iters c.args.lo c.args.hi c.args.moves.now c.loop-met.moves c.loop-met.met.key c.loop-met.met.turn c.loop-met.invariant.gathering c.slice_at.new.moves c.slice_at.new.moves at_key c.slice_at.ensures.cost (λ level here. omega arith)

pub returns-in_err-add_slice-clause-cost : goal.returns-in_err-add_slice-clause-cost
returns-in_err-add_slice-clause-cost g c =
    let at_key : c.loop-met.met.key < 2 ^ 128 - 1 = omega arith in
    slice_cost c.args.way.now c.loop-met.sense.root (slices_of c.loop-met.rows.items c.loop-met.sense.slices) c.args.iters.now c.loop-met.iters c.args.lo c.args.hi c.args.moves.now c.loop-met.moves c.loop-met.met.key c.loop-met.met.turn c.loop-met.invariant.gathering c.slice_at.new.moves c.slice_at.new.moves at_key c.slice_at.ensures.cost (λ level here. omega arith)

pub returns-in_err-met-2-clause-cost : goal.returns-in_err-met-2-clause-cost
returns-in_err-met-2-clause-cost g c =
    let at_key : c.loop-met.met.key < 2 ^ 128 - 1 = omega arith in
    slice_cost c.args.way.now c.loop-met.sense.root (slices_of c.loop-met.rows.items c.loop-met.sense.slices) c.args.iters.now c.loop-met.iters c.args.lo c.args.hi c.args.moves.now c.loop-met.moves c.loop-met.met.key c.loop-met.met.turn c.loop-met.invariant.gathering c.slice_at.new.moves c.next_key.new.moves at_key c.slice_at.ensures.cost
    (moves_on c.args.way.now c.loop-met.met.key c.loop-met.met.turn c.slice_at.new.moves c.next_key.new.moves c.slice_at.new.keys [] c.slice_at.new.iters c.loop-met.iters (c.in_ok-found.ensures.back) c.in_ok-found.ensures.iters c.next_key.ensures.within)

pub returns-in_err-noted-2-clause-cost : goal.returns-in_err-noted-2-clause-cost
returns-in_err-noted-2-clause-cost g c =
    let at_key : c.loop-met.met.key < 2 ^ 128 - 1 = omega arith in
    slice_cost c.args.way.now c.loop-met.sense.root (slices_of c.loop-met.rows.items c.loop-met.sense.slices) c.args.iters.now c.loop-met.iters c.args.lo c.args.hi c.args.moves.now c.loop-met.moves c.loop-met.met.key c.loop-met.met.turn c.loop-met.invariant.gathering c.slice_at.new.moves c.next_key.new.moves at_key c.slice_at.ensures.cost
    (moves_on c.args.way.now c.loop-met.met.key c.loop-met.met.turn c.slice_at.new.moves c.next_key.new.moves c.slice_at.new.keys [] c.slice_at.new.iters c.loop-met.iters (c.in_ok-found.ensures.back) c.in_ok-found.ensures.iters c.next_key.ensures.within)
