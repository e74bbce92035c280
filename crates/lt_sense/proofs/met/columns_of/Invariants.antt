use Rattle.std.proofs.Common.{◌≡◌, ◌<◌, ℕ, length}
use Rattle.lt_face.specs.Lists.{IsIn}
use Rattle.lt_sense.specs.Held.{first_columns}
use Rattle.lt_sense.proofs.met.columns_of.Given as goal

abbrev pub invariant-loop-column : goal.invariant-loop-column
invariant-loop-column l = (length l.columns ≡ l.column) × ((c : ℕ) → c < l.column → IsIn c l.columns) × (l.columns ≡ first_columns l.column)
