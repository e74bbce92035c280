use Rattle.std.proofs.Common.{◌≡◌, ◌+◌, ◌-◌, ◌≤◌, [], length}
use Rattle.lt_base.specs.Tables.{state_of}
use Rattle.lt_restate.specs.Touches.{cost_again}
use Rattle.lt_restate.specs.Walked.{IsUnderWay}
use Rattle.lt_restate.proofs.restating.restate_marks.Given as goal

abbrev pub invariant-statements : goal.invariant-statements
invariant-statements g l = record {
  under_way : IsUnderWay l.old l.new l.old_on l.new_on l.walk;
  base : l.new.base ≡ l.next;
  moves : l.moves ≤ l.fn.moves + cost_again l.old (state_of l.next) (length l.new.parts);
  rises : l.fn.moves ≤ l.moves;
  still : l.walk.touches ≡ [] → length l.new.parts ≤ length l.old.parts → l.moves ≤ l.fn.moves;
}

abbrev pub decreases-statements : goal.decreases-statements
decreases-statements g l = length l.new.program - length l.new.parts
