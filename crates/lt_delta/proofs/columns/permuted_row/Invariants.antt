use Rattle.std.proofs.Common.{◌≡◌, take}
use Rattle.lt_face.specs.State.{permuted}
use Rattle.lt_delta.proofs.columns.permuted_row.Given as goal

abbrev pub invariant-loop-column : goal.invariant-loop-column
invariant-loop-column l = l.cells ≡ permuted (take l.column-index l.columns) l.row
