use Rattle.std.proofs.Common.{◌<◌, ℕ}
use Rattle.lt_face.specs.Lists.{IsIn}
use Rattle.lt_sense.proofs.gathering.is_order.Given as goal

abbrev pub invariant-loop-column : goal.invariant-loop-column
invariant-loop-column l = (c : ℕ) → c < l.column → IsIn c l.columns
