use Rattle.std.proofs.Common.{◌+◌, List, refl, sym, ap, subst, ◌∙◌}
use Rattle.std.proofs.lemmas.List.{drop_all}
use Rattle.std.proofs.lemmas.Result.{err_from_is_err_and}
use Rattle.std.specs.List.{AllByRecursion}
use Rattle.lt_face.proofs.RowLemmas.{each_at}
use Rattle.lt_model.specs.declared.normal.Stmt.{Stmt}
use Rattle.lt_model.specs.declared.syntax.Statement.{Statement}
use Rattle.lt_model.specs.Check.{Good, checked_from, normal}
use Rattle.lt_model.specs.Within.{IsStatementWithin}
use Rattle.lt_check.proofs.Statements.{after_all, after_all_good, checked_more, fault_of}
use Rattle.lt_world.proofs.making.made.Goals as goal

pub loop-place-init : goal.loop-place-init
loop-place-init c =
    (sym (ap (λ (p : List Stmt). after_all p (checked_from c.args.schema.now 1 c.as_slice-wording-items.result.now)) c.in_ok-making.ensures.none), c.in_ok-making.ensures.made, c.requires.table)

pub take-requires-clause-within : goal.take-requires-clause-within
take-requires-clause-within c =
    subst IsStatementWithin (sym c.wording-item.is)
    (each_at IsStatementWithin c.as_slice-wording-items.result.now c.loop-place.place c.wording-item.result
    (subst (λ (ss : List Statement). AllByRecursion IsStatementWithin ss) (sym c.as_slice-wording-items.ensures) c.requires.within.statements) c.loop-place-test.true)

pub take-requires-clause-made : goal.take-requires-clause-made
take-requires-clause-made c = c.loop-place.invariant.1

pub take-requires-clause-table : goal.take-requires-clause-table
take-requires-clause-table c = c.loop-place.invariant.2

pub loop-place-preserved : goal.loop-place-preserved
loop-place-preserved c = (
  rw c.in_ok-take.ensures.more
      (checked_more c.args.schema.now c.as_slice-wording-items.result.now c.loop-place.making.prog c.loop-place.place c.wording-item.result (normal c.args.schema.now c.wording-item.result) c.loop-place-test.true c.wording-item.is
      c.loop-place.invariant.0 c.in_ok-take.ensures.code refl),
  c.in_ok-take.ensures.made,
  c.take.ensures.table,
)

pub returns-in_err-take-clause-bad : goal.returns-in_err-take-clause-bad
returns-in_err-take-clause-bad c =
    let p = err_from_is_err_and c.from_residual-in_err-take.result c.from_residual-in_err-take.ensures.1 in
    rw (p.1, p.2) (fault_of c.args.schema.now c.args.program.now c.as_slice-wording-items.result.now c.loop-place.making.prog c.loop-place.place c.wording-item.result _ c.as_slice-wording-items.ensures c.loop-place-test.true c.wording-item.is c.loop-place.invariant.0 c.in_err-take.ensures.bad)

pub returns-clause-good : goal.returns-clause-good
returns-clause-good c =
    let items = c.as_slice-wording-items.result.now in
    ap (checked_from c.args.schema.now 1) (sym c.as_slice-wording-items.ensures)
    ∙ (c.loop-place.invariant.0
    ∙ (ap (λ rest. after_all c.loop-place.making.prog (checked_from c.args.schema.now (c.loop-place.place + 1) rest)) (drop_all c.loop-place.place items c.loop-place-test.false)
    ∙ (after_all_good c.loop-place.making.prog ∙ ap Good (sym c.in_ok-planned.ensures))))
