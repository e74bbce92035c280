use Rattle.std.proofs.Common.{◌≡◌, ◌<◌, List, length, take, sym, ap, ◌∙◌, subst}
use Rattle.std.proofs.Math.Bool.{or-false}
use Rattle.std.proofs.lemmas.List.{take_all}
use Rattle.lt_face.specs.Lists.{IsIn}
use Rattle.lt_face.specs.State.{State}
use Rattle.lt_model.specs.Fits.{IsWide}
use Rattle.lt_base.specs.Tables.{Table, state_of, has_index}
use Rattle.lt_query.specs.declared.plans.IndexName.{IndexName}
use Rattle.lt_query.specs.Needs.{body_of, IsNeeded}
use Rattle.lt_query.specs.Stated.{stated_plan}
use Rattle.lt_query.proofs.StatedPlan.{IsPlanOf-stated, IsStatedPlan-stated}
use Rattle.lt_program.proofs.IndexesMade.{AreMade, made_more, made_kept, made_all, made_only, needed_there, needed_perm, in_place}
use Rattle.lt_program.proofs.indexing.indexed.Goals as goal

pub loop-name-init : goal.loop-name-init
loop-name-init g c = record {
  state = ap state_of c.in_ok-db.ensures;
  made = λ relation columns. ap (λ (tables : List Table). has_index tables relation columns) c.in_ok-db.ensures ∙ sym (or-false (has_index c.args.base.now relation columns));
}

pub with_index-requires-clause-there : goal.with_index-requires-clause-there
with_index-requires-clause-there g c = λ lifetimes outlive.
    let there : IsIn c.name-item.result c.in_ok-names.names = subst (λ (names : List IndexName). IsIn c.name-item.result names) c.as_slice-name-items.ensures (in_place c.as_slice-name-items.result.now c.loop-name.name-index c.name-item.result c.loop-name-test.true c.name-item.is) in
    subst (λ (s : State). c.name-item.result.relation < length s) (sym c.loop-name.invariant.state) (needed_there (state_of c.args.base.now) c.args.prog.now c.requires.fits c.name-item.result ((c.in_ok-names.ensures.needed c.name-item.result).0 there))

pub with_index-requires-clause-perm : goal.with_index-requires-clause-perm
with_index-requires-clause-perm g c = λ lifetimes outlive width wide.
    let there : IsIn c.name-item.result c.in_ok-names.names = subst (λ (names : List IndexName). IsIn c.name-item.result names) c.as_slice-name-items.ensures (in_place c.as_slice-name-items.result.now c.loop-name.name-index c.name-item.result c.loop-name-test.true c.name-item.is) in
    needed_perm (state_of c.args.base.now) c.args.prog.now c.requires.fits c.name-item.result ((c.in_ok-names.ensures.needed c.name-item.result).0 there) width
    (subst (λ (s : State). IsWide s c.name-item.result.relation width) c.loop-name.invariant.state wide)

pub loop-name-preserved : goal.loop-name-preserved
loop-name-preserved g c = record {
  state = c.in_ok-more.ensures.state ∙ c.loop-name.invariant.state;
  made = made_more c.args.base.now c.loop-name.db c.in_ok-more.more c.as_slice-name-items.result.now c.loop-name.name-index c.name-item.result c.loop-name-test.true c.name-item.is c.loop-name.invariant.made c.in_ok-more.ensures.indexes;
}

pub returns-clause-indexes : goal.returns-clause-indexes
returns-clause-indexes g c =
    let whole : take c.loop-name.name-index c.as_slice-name-items.result.now ≡ c.in_ok-names.names = take_all c.loop-name.name-index c.as_slice-name-items.result.now c.loop-name-test.false ∙ c.as_slice-name-items.ensures in
    let made = subst (λ (names : List IndexName). AreMade c.args.base.now names c.loop-name.db) whole c.loop-name.invariant.made in
    made_all c.args.base.now c.loop-name.db c.in_ok-names.names made c.args.prog.now
    (λ stmt there. c.in_ok-names.ensures.each stmt there (stated_plan (body_of stmt)) (IsPlanOf-stated (body_of stmt)) (IsStatedPlan-stated (body_of stmt)))
    c.in_ok-names.ensures.firsts

pub returns-clause-kept : goal.returns-clause-kept
returns-clause-kept g c =
    let whole : take c.loop-name.name-index c.as_slice-name-items.result.now ≡ c.in_ok-names.names = take_all c.loop-name.name-index c.as_slice-name-items.result.now c.loop-name-test.false ∙ c.as_slice-name-items.ensures in
    let made = subst (λ (names : List IndexName). AreMade c.args.base.now names c.loop-name.db) whole c.loop-name.invariant.made in
    made_kept c.args.base.now c.loop-name.db c.in_ok-names.names made

pub returns-clause-no_others : goal.returns-clause-no_others
returns-clause-no_others g c =
    let whole : take c.loop-name.name-index c.as_slice-name-items.result.now ≡ c.in_ok-names.names = take_all c.loop-name.name-index c.as_slice-name-items.result.now c.loop-name-test.false ∙ c.as_slice-name-items.ensures in
    let made = subst (λ (names : List IndexName). AreMade c.args.base.now names c.loop-name.db) whole c.loop-name.invariant.made in
    made_only c.args.base.now c.loop-name.db c.in_ok-names.names made (IsNeeded c.args.prog.now) (λ name there. (c.in_ok-names.ensures.needed name).0 there)
