use Rattle.std.proofs.Common.{length}
use Rattle.lt_base.specs.Tables.{state_of}
use Rattle.lt_model.specs.Marks.{laid}
use Rattle.lt_program.specs.Tally.{state_before, sense_of}
use Rattle.lt_restate.specs.Covered.{IsCoveredChange}
use Rattle.lt_restate.proofs.Covering.{Marked}
use Rattle.lt_restate.proofs.covered.add_changed.Given as goal

abbrev pub invariant-loop-i : goal.invariant-loop-i
invariant-loop-i l = Marked (IsCoveredChange (sense_of l.part) (laid (state_of l.old.base) l.past) (state_before (length l.new.parts) l.new.program (state_of l.new.base))) l.marks l.i l.fn.changes l.changes
