use Rattle.std.proofs.Common.{◌≡◌, List, map, length, sym, ap, subst, ◌∙◌, arith}
use Rattle.std.specs.Prelude.{None, set, slice_get}
use Rattle.lt_model.specs.declared.normal.Stmt.{Stmt}
use Rattle.lt_model.specs.declared.syntax.Statement.{Statement}
use Rattle.lt_model.specs.Check.{Good, checked_from, code_of, normal}
use Rattle.lt_world.proofs.GoodAll.{all_good, AreGood, good_all}
use Rattle.lt_world.proofs.Refilling.{all_taken, taken_next, turned_all, turned_at, turned_next}
use Rattle.lt_world.proofs.reusing.refill_all.Goals as goal

pub refill_by-requires-clause-stmt : goal.refill_by-requires-clause-stmt
refill_by-requires-clause-stmt c =
    ap (λ (ps : List Stmt). slice_get ps c.loop-i.i) c.loop-i.invariant.0
    ∙ turned_at (normal c.args.schema.now) c.as_slice-new.result.now c.as_slice-old.result.now c.loop-i.i c.index-old-i.result c.loop-i-test.true (omega (arith, c.if-new-old.false, c.loop-i-test.true)) c.index-old-i.is

pub loop-i-init : goal.loop-i-init
loop-i-init c =
    (good_all c.args.schema.now c.args.old.now.statements 1 c.args.planned.now c.requires.old ∙ ap (λ (ss : List Statement). map (normal c.args.schema.now) ss) (sym c.as_slice-old.ensures), tt)

pub loop-i-preserved : goal.loop-i-preserved
loop-i-preserved c = (
  c.refill_by.ensures.filled c.if-not-refill_by.false
      ∙ (ap (λ (ps : List Stmt). set ps c.loop-i.i (normal c.args.schema.now c.index-new-i.result)) c.loop-i.invariant.0
      ∙ turned_next (normal c.args.schema.now) c.as_slice-new.result.now c.as_slice-old.result.now c.loop-i.i c.index-new-i.result c.loop-i-test.true (omega (arith, c.if-new-old.false, c.loop-i-test.true)) c.index-new-i.is),
  taken_next (λ (s : Statement). code_of c.args.schema.now s ≡ None) c.as_slice-new.result.now c.loop-i.i c.index-new-i.result c.loop-i-test.true c.index-new-i.is c.loop-i.invariant.1 (c.refill_by.ensures.code c.if-not-refill_by.false),
)

pub returns : goal.returns
returns c = λ done.
    let new = c.as_slice-new.result.now in
    let old = c.as_slice-old.result.now in
    let all : length new ≡ c.loop-i.i = omega (arith, c.loop-i-test.false, c.loop-i.auto.i-end) in
    let too : length old ≡ c.loop-i.i = omega (arith, all, c.if-new-old.false) in
    let good : AreGood c.args.schema.now new = subst (λ (ss : List Statement). AreGood c.args.schema.now ss) (all_taken new c.loop-i.i all) c.loop-i.invariant.1 in
    ap (checked_from c.args.schema.now 1) (sym c.as_slice-new.ensures)
    ∙ (all_good c.args.schema.now new 1 good ∙ ap Good (sym (c.loop-i.invariant.0 ∙ ap (λ (ss : List Statement). map (normal c.args.schema.now) ss) (turned_all new old c.loop-i.i all too))))
