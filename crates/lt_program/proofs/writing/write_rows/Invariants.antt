use Rattle.std.proofs.Common.{take}
use Rattle.lt_base.specs.Tables.{state_of}
use Rattle.lt_model.specs.Effect.{marks_on}
use Rattle.lt_model.specs.State.{IsState}
use Rattle.lt_program.specs.Undo.{IsWritten}
use Rattle.lt_program.proofs.writing.write_rows.Given as goal

abbrev pub invariant-loop-row : goal.invariant-loop-row
invariant-loop-row l = record {
  good : IsState (state_of l.db);
  written : IsWritten (marks_on l.relation l.plus (take l.row-index l.rows)) l.logs l.fn.db l.db l.fn.undo.items l.undo.items;
}
