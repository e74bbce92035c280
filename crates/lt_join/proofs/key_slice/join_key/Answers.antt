use Rattle.std.proofs.Common.{◌≡◌, ◌+◌, ◌≤◌, ℕ, [], List, length, slice_get, Some, refl, sym, subst}
use Rattle.lt_leap.specs.Potential.{join_cost}
use Rattle.lt_model.specs.Answers.{Values}
use Rattle.lt_query.specs.declared.plans.Level.{Level}
use Rattle.lt_sense.specs.Kept.{Sense}
use Rattle.lt_sense.specs.Sense.{IsTight}
use Rattle.lt_join.specs.Cost.{iterators_at}
use Rattle.lt_join.specs.Holders.{IsUsable}
use Rattle.lt_join.specs.Known.{IsKnown}
use Rattle.lt_join.specs.Level.{AreAtomsAt}
use Rattle.lt_join.specs.Values.{values_in}
use Rattle.lt_join.specs.Walked.{at}
use Rattle.lt_join.specs.Way.{IsWay}
use Rattle.lt_join.proofs.Going.{opened_cost, opens_at_root, reached_none, usable_level}
use Rattle.lt_join.proofs.Known.{IsKnown-root}
use Rattle.lt_join.proofs.KeyFound.{opened_all, found_cell, found_cost, found_fits, found_iters, found_of_key, passed_is_slice, passed_of_key, passed_root}
use Rattle.lt_join.proofs.key_slice.join_key.Goals as goal

pub range_below-range-requires-clause-known : goal.range_below-range-requires-clause-known
range_below-range-requires-clause-known g c =
    subst (λ (ks : List ℕ). IsKnown c.args.way.now.plan.levels ks (values_in c.none-values.result.cells)) (sym c.root-keys.ensures) (subst (λ (vs : Values). IsKnown c.args.way.now.plan.levels [] vs) (sym c.none-values.ensures) (IsKnown-root c.args.way.now.plan.levels))

pub open-requires-clause-leaves : goal.open-requires-clause-leaves
open-requires-clause-leaves g c = c.range_below-range.ensures.leaves

pub open-requires-clause-low : goal.open-requires-clause-low
open-requires-clause-low g c = c.range_below-range.ensures.low

pub open-requires-clause-iters : goal.open-requires-clause-iters
open-requires-clause-iters g c =
    subst (λ (ks : List ℕ). AreAtomsAt c.args.way.now.plan c.args.way.now.state ks c.args.iters.now) (sym c.root-keys.ensures) c.requires.iters

pub open-requires-clause-known : goal.open-requires-clause-known
open-requires-clause-known g c =
    subst (λ (ks : List ℕ). IsKnown c.args.way.now.plan.levels ks (values_in c.none-values.result.cells)) (sym c.root-keys.ensures) (subst (λ (vs : Values). IsKnown c.args.way.now.plan.levels [] vs) (sym c.none-values.ensures) (IsKnown-root c.args.way.now.plan.levels))

pub open-requires-clause-usable : goal.open-requires-clause-usable
open-requires-clause-usable g c =
    let way : IsWay c.args.way.now = subst IsWay c.way.view_is c.way.invariant.0 in
    subst (λ (ks : List ℕ). (level : Level) × (slice_get c.args.way.now.plan.levels (length ks) ≡ Some level) × IsUsable c.args.way.now.plan.guides level ks) (sym c.root-keys.ensures)
    (usable_level c.args.way.now c.none-noted.result [] way (reached_none c.args.way.now c.none-noted.result way) c.requires.has_levels)

pub open-requires-clause-tight : goal.open-requires-clause-tight
open-requires-clause-tight g c =
    subst (λ (s : Sense). IsTight s c.args.way.now.state) (sym c.none-noted.ensures) (record { gaps = tt; hits = tt })

pub returns-in_err-met-clause-cost : goal.returns-in_err-met-clause-cost
returns-in_err-met-clause-cost g c =
    opened_cost c.args.way.now [] c.args.moves.now c.open.new.moves c.requires.has_levels
    (subst (λ (ks : List ℕ). (level : Level) → slice_get c.args.way.now.plan.levels (length ks) ≡ Some level → c.open.new.moves ≤ c.args.moves.now + join_cost (iterators_at c.args.way.now.state c.args.way.now.plan.guides level (length ks) (at ks))) c.root-keys.ensures c.open.ensures.within)

pub slice_at-requires-clause-iters : goal.slice_at-requires-clause-iters
slice_at-requires-clause-iters g c =
    let way : IsWay c.args.way.now = subst IsWay c.way.view_is c.way.invariant.0 in
    let opened = opens_at_root c.args.way.now c.none-noted.result c.open.new.sense c.args.iters.now c.open.new.iters c.args.key c.args.moves.now c.open.new.moves c.in_ok-met.met.key c.in_ok-met.met.turn c.root-keys.result c.root-keys.ensures c.in_ok-met.ensures.gone in
    found_iters c.args.way.now c.none-noted.result c.open.new.sense c.args.iters.now c.open.new.iters c.args.key c.args.moves.now c.open.new.moves c.in_ok-met.met.key c.in_ok-met.met.turn way c.requires.has_levels c.none-noted.ensures opened c.if-met-key.true c.requires.bound

pub slice_at-requires-clause-cell : goal.slice_at-requires-clause-cell
slice_at-requires-clause-cell g c =
    let way : IsWay c.args.way.now = subst IsWay c.way.view_is c.way.invariant.0 in
    let opened = opens_at_root c.args.way.now c.none-noted.result c.open.new.sense c.args.iters.now c.open.new.iters c.args.key c.args.moves.now c.open.new.moves c.in_ok-met.met.key c.in_ok-met.met.turn c.root-keys.result c.root-keys.ensures c.in_ok-met.ensures.gone in
    found_cell c.args.way.now c.none-noted.result c.open.new.sense c.args.iters.now c.open.new.iters c.args.key c.args.moves.now c.open.new.moves c.in_ok-met.met.key c.in_ok-met.met.turn way c.requires.has_levels c.none-noted.ensures opened c.if-met-key.true c.requires.bound

pub slice_at-requires-clause-fits : goal.slice_at-requires-clause-fits
slice_at-requires-clause-fits g c =
    let way : IsWay c.args.way.now = subst IsWay c.way.view_is c.way.invariant.0 in
    let opened = opens_at_root c.args.way.now c.none-noted.result c.open.new.sense c.args.iters.now c.open.new.iters c.args.key c.args.moves.now c.open.new.moves c.in_ok-met.met.key c.in_ok-met.met.turn c.root-keys.result c.root-keys.ensures c.in_ok-met.ensures.gone in
    found_fits c.args.way.now c.none-noted.result c.open.new.sense c.args.iters.now c.open.new.iters c.args.key c.args.moves.now c.open.new.moves c.in_ok-met.met.key c.in_ok-met.met.turn way c.requires.has_levels c.none-noted.ensures opened c.if-met-key.true c.requires.bound

pub returns-then-met-key-clause-of_key : goal.returns-then-met-key-clause-of_key
returns-then-met-key-clause-of_key g c =
    let way : IsWay c.args.way.now = subst IsWay c.way.view_is c.way.invariant.0 in
    let opened = opens_at_root c.args.way.now c.none-noted.result c.open.new.sense c.args.iters.now c.open.new.iters c.args.key c.args.moves.now c.open.new.moves c.in_ok-met.met.key c.in_ok-met.met.turn c.root-keys.result c.root-keys.ensures c.in_ok-met.ensures.gone in
    found_of_key c.args.way.now c.none-noted.result c.open.new.sense c.args.iters.now c.open.new.iters c.args.key c.args.moves.now c.open.new.moves c.in_ok-met.met.key c.in_ok-met.met.turn way c.requires.has_levels c.none-noted.ensures opened c.if-met-key.true c.requires.bound c.in_ok-found.found.1 c.slice_at.new.moves c.in_ok-found.ensures.gaps c.in_ok-found.ensures.hits c.slice_at.ensures.cost

pub returns-then-met-key-clause-cost : goal.returns-then-met-key-clause-cost
returns-then-met-key-clause-cost g c =
    let way : IsWay c.args.way.now = subst IsWay c.way.view_is c.way.invariant.0 in
    let opened = opens_at_root c.args.way.now c.none-noted.result c.open.new.sense c.args.iters.now c.open.new.iters c.args.key c.args.moves.now c.open.new.moves c.in_ok-met.met.key c.in_ok-met.met.turn c.root-keys.result c.root-keys.ensures c.in_ok-met.ensures.gone in
    found_cost c.args.way.now c.none-noted.result c.open.new.sense c.args.iters.now c.open.new.iters c.args.key c.args.moves.now c.open.new.moves c.in_ok-met.met.key c.in_ok-met.met.turn way c.requires.has_levels c.none-noted.ensures opened c.if-met-key.true c.requires.bound c.slice_at.new.moves c.slice_at.ensures.cost

pub returns-in_err-found-clause-cost : goal.returns-in_err-found-clause-cost
returns-in_err-found-clause-cost g c =
    let way : IsWay c.args.way.now = subst IsWay c.way.view_is c.way.invariant.0 in
    let opened = opens_at_root c.args.way.now c.none-noted.result c.open.new.sense c.args.iters.now c.open.new.iters c.args.key c.args.moves.now c.open.new.moves c.in_ok-met.met.key c.in_ok-met.met.turn c.root-keys.result c.root-keys.ensures c.in_ok-met.ensures.gone in
    found_cost c.args.way.now c.none-noted.result c.open.new.sense c.args.iters.now c.open.new.iters c.args.key c.args.moves.now c.open.new.moves c.in_ok-met.met.key c.in_ok-met.met.turn way c.requires.has_levels c.none-noted.ensures opened c.if-met-key.true c.requires.bound c.slice_at.new.moves c.slice_at.ensures.cost

pub noted_at_key-requires-clause-root : goal.noted_at_key-requires-clause-root
noted_at_key-requires-clause-root g c =
    let way : IsWay c.args.way.now = subst IsWay c.way.view_is c.way.invariant.0 in
    let opened = opens_at_root c.args.way.now c.none-noted.result c.open.new.sense c.args.iters.now c.open.new.iters c.args.key c.args.moves.now c.open.new.moves c.in_ok-met.met.key c.in_ok-met.met.turn c.root-keys.result c.root-keys.ensures c.in_ok-met.ensures.gone in
    passed_root c.args.way.now c.none-noted.result c.open.new.sense c.args.iters.now c.open.new.iters c.args.key c.args.moves.now c.open.new.moves c.in_ok-met.met.key c.in_ok-met.met.turn way c.requires.has_levels c.none-noted.ensures opened

pub returns-clause-slice : goal.returns-clause-slice
returns-clause-slice g c =
    let way : IsWay c.args.way.now = subst IsWay c.way.view_is c.way.invariant.0 in
    let opened = opens_at_root c.args.way.now c.none-noted.result c.open.new.sense c.args.iters.now c.open.new.iters c.args.key c.args.moves.now c.open.new.moves c.in_ok-met.met.key c.in_ok-met.met.turn c.root-keys.result c.root-keys.ensures c.in_ok-met.ensures.gone in
    passed_is_slice c.args.way.now c.none-noted.result c.open.new.sense c.args.iters.now c.open.new.iters c.args.key c.args.moves.now c.open.new.moves c.in_ok-met.met.key c.in_ok-met.met.turn way c.requires.has_levels c.none-noted.ensures opened c.if-met-key.false _ refl c.new-rows.ensures c.in_ok-sense.ensures

pub returns-clause-of_key : goal.returns-clause-of_key
returns-clause-of_key g c =
    let way : IsWay c.args.way.now = subst IsWay c.way.view_is c.way.invariant.0 in
    let opened = opens_at_root c.args.way.now c.none-noted.result c.open.new.sense c.args.iters.now c.open.new.iters c.args.key c.args.moves.now c.open.new.moves c.in_ok-met.met.key c.in_ok-met.met.turn c.root-keys.result c.root-keys.ensures c.in_ok-met.ensures.gone in
    passed_of_key c.args.way.now c.none-noted.result c.open.new.sense c.args.iters.now c.open.new.iters c.args.key c.args.moves.now c.open.new.moves c.in_ok-met.met.key c.in_ok-met.met.turn way c.requires.has_levels c.none-noted.ensures opened c.if-met-key.false c.in_ok-sense.sense c.in_ok-sense.ensures

pub returns-clause-cost : goal.returns-clause-cost
returns-clause-cost g c =
    let way : IsWay c.args.way.now = subst IsWay c.way.view_is c.way.invariant.0 in
    let opened = opens_at_root c.args.way.now c.none-noted.result c.open.new.sense c.args.iters.now c.open.new.iters c.args.key c.args.moves.now c.open.new.moves c.in_ok-met.met.key c.in_ok-met.met.turn c.root-keys.result c.root-keys.ensures c.in_ok-met.ensures.gone in
    opened_all c.args.way.now c.none-noted.result c.open.new.sense c.args.iters.now c.open.new.iters c.args.key c.args.moves.now c.open.new.moves c.in_ok-met.met.key c.in_ok-met.met.turn way c.requires.has_levels c.none-noted.ensures opened

pub returns-in_err-sense-clause-cost : goal.returns-in_err-sense-clause-cost
returns-in_err-sense-clause-cost g c =
    let way : IsWay c.args.way.now = subst IsWay c.way.view_is c.way.invariant.0 in
    let opened = opens_at_root c.args.way.now c.none-noted.result c.open.new.sense c.args.iters.now c.open.new.iters c.args.key c.args.moves.now c.open.new.moves c.in_ok-met.met.key c.in_ok-met.met.turn c.root-keys.result c.root-keys.ensures c.in_ok-met.ensures.gone in
    opened_all c.args.way.now c.none-noted.result c.open.new.sense c.args.iters.now c.open.new.iters c.args.key c.args.moves.now c.open.new.moves c.in_ok-met.met.key c.in_ok-met.met.turn way c.requires.has_levels c.none-noted.ensures opened
