use Rattle.std.proofs.Common.{◌≤◌, length}
use Rattle.lt_tables.specs.Loads.{AreConstants}
use Rattle.lt_tables.proofs.loads.constants.Given as goal

abbrev pub invariant-loop-column : goal.invariant-loop-column
invariant-loop-column l = AreConstants l.terms × (length l.terms ≤ l.column)
