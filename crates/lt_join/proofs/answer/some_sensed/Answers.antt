use Rattle.std.proofs.Common.{◌≡◌, ◌+◌, ◌≤◌, [], true, length, refl, sym, ap, arith, subst}
use Rattle.lt_model.specs.Answers.{Values}
use Rattle.lt_sense.specs.Kept.{Sense}
use Rattle.lt_sense.specs.Sense.{IsTight}
use Rattle.lt_join.specs.Certify.{Vouches}
use Rattle.lt_join.specs.Cost.{cost_from}
use Rattle.lt_join.specs.Known.{IsKnown}
use Rattle.lt_join.specs.Walked.{at, IsReached}
use Rattle.lt_join.specs.Way.{WayView, HasWalked}
use Rattle.lt_join.proofs.Going.{right_none}
use Rattle.lt_join.proofs.Known.{IsKnown-root}
use Rattle.lt_join.proofs.Prepared.{IsPrepared-from, has_columns}
use Rattle.lt_join.proofs.Steps.{IsReached-none}
use Rattle.lt_join.proofs.Truth.{told}
use Rattle.lt_join.proofs.answer.some_sensed.Goals as goal

pub walk_all-requires-clause-known : goal.walk_all-requires-clause-known
walk_all-requires-clause-known g c =
    subst (λ (vs : Values). IsKnown c.in_ok-way.way.plan.levels [] vs) (sym c.new-walk.ensures.values) (IsKnown-root c.in_ok-way.way.plan.levels)

pub walk_all-requires-clause-reached : goal.walk_all-requires-clause-reached
walk_all-requires-clause-reached g c =
    subst (λ (w : WayView). IsReached w.plan c.new-walk.result.found.sense []) (sym c.in_ok-way.ensures)
    (IsReached-none c.args.plan.now c.new-walk.result.found.sense (has_columns c.args.plan.now.guides c.requires.can_join.runnable.widths))

pub walk_all-requires-clause-right : goal.walk_all-requires-clause-right
walk_all-requires-clause-right g c =
    right_none c.in_ok-way.way c.new-walk.result.found c.new-walk.ensures.sense c.new-walk.ensures.rows

pub new-requires-clause-prepared : goal.new-requires-clause-prepared
new-requires-clause-prepared g c =
    IsPrepared-from (g.I.Indexes.state c.args.indexes.now) c.args.body.now c.args.plan.now [] c.requires.can_join.fits c.requires.can_join.runnable (omega arith)

pub returns-clause-truth : goal.returns-clause-truth
returns-clause-truth g c =
    let walked = subst (λ (w : WayView). HasWalked w [] c.new-walk.result.found c.walk_all.new.walk.found c.args.moves.now c.walk_all.new.moves c.in_ok-truth.truth) c.in_ok-way.ensures c.in_ok-truth.ensures.walked in
    let both = told (record { state = g.I.Indexes.state c.args.indexes.now; body = c.args.body.now; plan = c.args.plan.now; terms = []; first = true; wanted = 0 }) c.new-walk.result.found c.walk_all.new.walk.found c.args.moves.now c.walk_all.new.moves c.in_ok-truth.truth c.requires.can_join.of_body (c.requires.can_join.fits.is_bound, c.requires.can_join.fits.are_absents_bound) refl refl c.new-walk.ensures.rows walked in
    both.0

pub returns-clause-vouched : goal.returns-clause-vouched
returns-clause-vouched g c =
    let walked = subst (λ (w : WayView). HasWalked w [] c.new-walk.result.found c.walk_all.new.walk.found c.args.moves.now c.walk_all.new.moves c.in_ok-truth.truth) c.in_ok-way.ensures c.in_ok-truth.ensures.walked in
    let both = told (record { state = g.I.Indexes.state c.args.indexes.now; body = c.args.body.now; plan = c.args.plan.now; terms = []; first = true; wanted = 0 }) c.new-walk.result.found c.walk_all.new.walk.found c.args.moves.now c.walk_all.new.moves c.in_ok-truth.truth c.requires.can_join.of_body (c.requires.can_join.fits.is_bound, c.requires.can_join.fits.are_absents_bound) refl refl c.new-walk.ensures.rows walked in
    subst (λ (s : Sense). Vouches s c.args.body.now (g.I.Indexes.state c.args.indexes.now)) (sym c.into_senses.ensures) both.1

pub returns-clause-tight : goal.returns-clause-tight
returns-clause-tight g c =
    subst (λ (s : Sense). IsTight s (g.I.Indexes.state c.args.indexes.now)) (sym c.into_senses.ensures) (subst (λ (w : WayView). IsTight c.walk_all.new.walk.found.sense w.state) c.in_ok-way.ensures c.in_ok-truth.ensures.walked.right.tight)

pub returns-clause-gaps : goal.returns-clause-gaps
returns-clause-gaps g c =
    let none : length c.new-walk.result.found.sense.gaps ≡ 0 = ap (λ (s : Sense). length s.gaps) c.new-walk.ensures.sense in
    let same = ap (λ (s : Sense). length s.gaps) c.into_senses.ensures in
    let fewer = c.in_ok-truth.ensures.walked.gains.gaps in
    omega (arith, none, same, fewer)

pub returns-clause-hits : goal.returns-clause-hits
returns-clause-hits g c =
    let none : length c.new-walk.result.found.sense.hits ≡ 0 = ap (λ (s : Sense). length s.hits) c.new-walk.ensures.sense in
    let same = ap (λ (s : Sense). length s.hits) c.into_senses.ensures in
    let fewer = c.in_ok-truth.ensures.walked.gains.hits in
    omega (arith, none, same, fewer)

pub returns-clause-cost : goal.returns-clause-cost
returns-clause-cost g c =
    subst (λ (w : WayView). c.walk_all.new.moves ≤ c.args.moves.now + cost_from (length w.body.absents) w.state w.plan.guides w.plan.levels 0 (at [])) c.in_ok-way.ensures c.walk_all.ensures.cost
