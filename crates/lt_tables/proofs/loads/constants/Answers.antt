use Rattle.std.proofs.Common.{◌≤◌, ◌+◌, length, subst, sym}
use Rattle.lt_tables.specs.Loads.{AreConstants}
use Rattle.lt_tables.proofs.Loading.{constants_more, length_more}
use Rattle.lt_tables.proofs.loads.constants.Goals as goal

pub loop-column-preserved : goal.loop-column-preserved
loop-column-preserved c =
    let pushed = c.in_ok-push.ensures.ok in (
      subst AreConstants (sym pushed) (constants_more c.loop-column.terms _ _ c.loop-column.invariant.0 (c.is_cell.ensures c.if-not-is_cell.false)),
      subst (λ ts. length ts ≤ c.loop-column.column + 1) (sym pushed) (length_more c.loop-column.terms _ c.loop-column.column c.loop-column.invariant.1),
    )
