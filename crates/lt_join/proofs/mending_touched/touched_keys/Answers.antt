use Rattle.std.proofs.Common.{◌<◌, ◌≤◌, [], List, ℕ, length, sym, subst, arith}
use Rattle.lt_face.specs.State.{Row}
use Rattle.lt_sense.specs.ByKey.{GainsJust}
use Rattle.lt_sense.specs.Gathered.{IsAskable}
use Rattle.lt_join.specs.Sliced.{united}
use Rattle.lt_join.proofs.Lists.{is_in_at}
use Rattle.lt_join.proofs.MendKeys.{GainsJust-all, GainsJust-begun, GainsJust-more, OfOne, TouchedBy, touched_enough, touched_is}
use Rattle.lt_join.proofs.Repair.{All_at}
use Rattle.lt_join.proofs.mending_touched.touched_keys.Goals as goal

pub loop-change-init : goal.loop-change-init
loop-change-init c =
    let P = TouchedBy c.args.found.now.root c.args.found.now.slices in
    subst (λ (ks : List ℕ). GainsJust (OfOne P []) [] ks) (sym c.new-keys.ensures.items) (GainsJust-begun P [])

pub loop-change-preserved : goal.loop-change-preserved
loop-change-preserved c =
    let P = TouchedBy c.args.found.now.root c.args.found.now.slices in
    let changes = c.args.changes.now in
    let items = c.as_slice-change-items.ensures in
    let change = c.change-item.result in
    let lt : c.loop-change.change-index < length changes = subst (λ (xs : List (ℕ × Row)). c.loop-change.change-index < length xs) items c.loop-change-test.true in
    let is = rw items at c.change-item.is in
    let askable = All_at (λ (x : ℕ × Row). IsAskable (united c.args.found.now.root c.args.found.now.slices) x.0 x.1) changes change c.requires (is_in_at changes c.loop-change.change-index change lt is) in
    GainsJust-more P changes c.loop-change.change-index change [] c.loop-change.keys.items c.add_touched.new.keys.items lt is c.loop-change.invariant (c.in_ok-add_touched.ensures askable)

pub returns-clause-touched : goal.returns-clause-touched
returns-clause-touched c =
    let P = TouchedBy c.args.found.now.root c.args.found.now.slices in
    let changes = c.args.changes.now in
    let all : length changes ≤ c.loop-change.change-index = subst (λ (xs : List (ℕ × Row)). length xs ≤ c.loop-change.change-index) c.as_slice-change-items.ensures (omega (arith, c.loop-change-test.false)) in
    touched_is c.args.found.now.root c.args.found.now.slices changes c.loop-change.keys.items c.in_ok-keys.keys
    (GainsJust-all P changes c.loop-change.change-index [] c.loop-change.keys.items all c.loop-change.invariant) c.in_ok-keys.ensures.same c.in_ok-keys.ensures.ascending

pub returns-clause-enough : goal.returns-clause-enough
returns-clause-enough c = touched_enough c.args.found.now.root c.args.found.now.slices c.args.changes.now c.in_ok-keys.keys (returns-clause-touched c)
