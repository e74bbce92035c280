use Rattle.std.proofs.Common.{◌≤◌, length}
use Rattle.lt_program.specs.Displacing.{Notes, AboveIn}
use Rattle.lt_program.proofs.noting.note_above.Given as goal

abbrev pub invariant-loop-column : goal.invariant-loop-column
invariant-loop-column l = record {
  notes : Notes (AboveIn l.row l.from l.column) l.place.relation (length l.place.columns) l.fn.sense l.sense;
  within : l.column ≤ length l.row;
}
