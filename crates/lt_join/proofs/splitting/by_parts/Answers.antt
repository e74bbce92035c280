use Rattle.std.proofs.Common.{◌<◌, ◌∙◌, length, refl, sym, ap, subst, arith}
use Rattle.lt_face.specs.Keys.{end_key}
use Rattle.lt_model.specs.Answers.{ascending}
use Rattle.lt_sense.specs.Kept.{Sense}
use Rattle.lt_sense.specs.Sense.{IsTight}
use Rattle.lt_join.specs.Certify.{Certifies}
use Rattle.lt_join.proofs.PartLaws.{part_answers, part_certifies}
use Rattle.lt_join.proofs.Prepared.{IsJoinable-from, IsPrepared-from}
use Rattle.lt_join.proofs.splitting.by_parts.Goals as goal

pub answers_prepared-requires-clause-prepared : goal.answers_prepared-requires-clause-prepared
answers_prepared-requires-clause-prepared g c = IsPrepared-from (g.I.Indexes.state c.args.indexes.now) c.args.body.now c.args.plan.now c.args.terms.now c.requires.can_join.fits c.requires.can_join.runnable c.requires.answerable.narrow

pub answers_prepared-requires-clause-tests : goal.answers_prepared-requires-clause-tests
answers_prepared-requires-clause-tests g c = (c.requires.can_join.fits.is_bound, c.requires.can_join.fits.are_absents_bound)

pub find_whole-requires-clause-ready : goal.find_whole-requires-clause-ready
find_whole-requires-clause-ready g c κs within =
    let has_levels : 0 < length c.args.plan.now.levels = omega arith in
    IsJoinable-from (g.I.Indexes.state c.args.indexes.now) (g.I.Indexes.has_index c.args.indexes.now) c.args.body.now c.args.plan.now c.args.terms.now c.requires.can_join c.requires.answerable has_levels

pub returns-clause-rows : goal.returns-clause-rows
returns-clause-rows g c =
    let has_levels : 0 < length c.args.plan.now.levels = omega arith in
    c.in_ok-rows.ensures
    ∙ (ap ascending c.into_vec.ensures
    ∙ part_answers c.args.body.now c.args.plan.now (g.I.Indexes.state c.args.indexes.now) c.requires.can_join.of_body has_levels (c.requires.can_join.fits.is_bound, c.requires.can_join.fits.are_absents_bound) c.args.terms.now 0 end_key c.in_ok-found.found.rows c.in_ok-found.found.sense c.requires.answerable.are_bound refl (omega arith) c.in_ok-found.ensures.found)

pub returns-clause-certified : goal.returns-clause-certified
returns-clause-certified g c =
    let has_levels : 0 < length c.args.plan.now.levels = omega arith in
    subst (λ (s : Sense). Certifies s c.args.body.now (g.I.Indexes.state c.args.indexes.now)) (sym c.into_senses.ensures)
    (part_certifies c.args.body.now c.args.plan.now (g.I.Indexes.state c.args.indexes.now) c.requires.can_join.of_body has_levels (c.requires.can_join.fits.is_bound, c.requires.can_join.fits.are_absents_bound) c.args.terms.now 0 end_key c.in_ok-found.found.rows c.in_ok-found.found.sense refl (omega arith) c.in_ok-found.ensures.found)

pub returns-clause-tight : goal.returns-clause-tight
returns-clause-tight g c = subst (λ (s : Sense). IsTight s (g.I.Indexes.state c.args.indexes.now)) (sym c.into_senses.ensures) c.in_ok-found.ensures.found.tight

pub returns-clause-gaps : goal.returns-clause-gaps
returns-clause-gaps g c =
    let same = ap (λ (s : Sense). length s.gaps) c.into_senses.ensures in
    let few = c.in_ok-found.ensures.paid.gaps in
    omega arith

pub returns-clause-hits : goal.returns-clause-hits
returns-clause-hits g c =
    let same = ap (λ (s : Sense). length s.hits) c.into_senses.ensures in
    let few = c.in_ok-found.ensures.paid.hits in
    omega arith
