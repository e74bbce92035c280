use Rattle.std.proofs.Common.{◌≡◌, ◌-◌, drop}
use Rattle.lt_face.specs.State.{row_eq}
use Rattle.lt_delta.specs.Columns.{numbers}
use Rattle.lt_base.proofs.columns.is_own_order.Given as goal

abbrev pub invariant-loop-i : goal.invariant-loop-i
invariant-loop-i l = row_eq l.columns (numbers 0 l.width) ≡ row_eq (drop l.i l.columns) (numbers l.i (l.width - l.i))
