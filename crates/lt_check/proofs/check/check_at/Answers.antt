use Rattle.std.proofs.Common.{◌≡◌, ◌+◌, sym, ap, ◌∙◌}
use Rattle.std.proofs.lemmas.List.{drop_all}
use Rattle.std.proofs.lemmas.Result.{err_from_is_err_and}
use Rattle.lt_model.specs.Check.{Good, checked, checked_from}
use Rattle.lt_check.proofs.Fitting.{good_fits, good_inserts}
use Rattle.lt_check.proofs.Statements.{after_all, checked_more, fault_of, after_all_good}
use Rattle.lt_check.proofs.check.check_at.Goals as goal

pub returns-in_err-stmt-clause-bad : goal.returns-in_err-stmt-clause-bad
returns-in_err-stmt-clause-bad c =
    let p = err_from_is_err_and c.from_residual.result c.from_residual.ensures.1 in
    rw (p.1, p.2) (fault_of c.args.schema.now c.args.program.now c.as_slice-statement-items.result.now c.loop-place.prog c.loop-place.place c.statement-item.result _ c.as_slice-statement-items.ensures c.loop-place-test.true c.statement-item.is c.loop-place.invariant c.in_err-stmt.ensures.bad)

pub loop-place-preserved : goal.loop-place-preserved
loop-place-preserved c =
    rw c.in_ok-push.ensures.ok
    (checked_more c.args.schema.now c.as_slice-statement-items.result.now c.loop-place.prog c.loop-place.place c.statement-item.result c.in_ok-stmt.stmt c.loop-place-test.true c.statement-item.is c.loop-place.invariant c.in_ok-stmt.ensures.good.0 c.in_ok-stmt.ensures.good.1)

whole : (c : goal.After-loop-place) → checked c.args.program.now c.args.schema.now ≡ Good c.loop-place.prog
whole c =
    let items = c.as_slice-statement-items.result.now in
    ap (checked_from c.args.schema.now 1) (sym c.as_slice-statement-items.ensures)
    ∙ c.loop-place.invariant
    ∙ ap (λ rest. after_all c.loop-place.prog (checked_from c.args.schema.now (c.loop-place.place + 1) rest)) (drop_all c.loop-place.place items c.loop-place-test.false)
    ∙ after_all_good c.loop-place.prog

pub returns-clause-good : goal.returns-clause-good
returns-clause-good c = whole c

pub returns-clause-fits : goal.returns-clause-fits
returns-clause-fits c state fits = good_fits c.args.schema.now state c.args.program.now c.loop-place.prog c.requires fits c.headings-keyed.ensures.keyed (whole c)

pub returns-clause-keyed : goal.returns-clause-keyed
returns-clause-keyed c = good_inserts c.args.schema.now c.args.program.now c.loop-place.prog c.requires (whole c)
