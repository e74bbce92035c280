use Rattle.std.proofs.Common.{◌≡◌, subst, arith, inl, inr}
use Rattle.std.proofs.lemmas.Bool.{cases_lt}
use Rattle.lt_face.specs.Lists.{IsIn}
use Rattle.lt_sense.proofs.gathering.is_order.Goals as goal

pub loop-column-preserved : goal.loop-column-preserved
loop-column-preserved c d lt =
    let columns = c.args.columns.now in
    let here = c.has_column.ensures c.if-not-has_column.false in
    elim (cases_lt d c.loop-column.column) [
      | inl before ↦ c.loop-column.invariant d before
      | inr from ↦ subst (λ x. IsIn x columns) (let e : c.loop-column.column ≡ d = omega (arith, from, lt) in e) here
    ]
