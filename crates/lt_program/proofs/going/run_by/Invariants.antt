use Rattle.std.proofs.Common.{◌+◌, ◌-◌, ◌≤◌, length}
use Rattle.lt_base.specs.Tables.{state_of}
use Rattle.lt_program.specs.Alone.{IsUnderWay}
use Rattle.lt_program.specs.Split.{cost_of_first_by}
use Rattle.lt_program.proofs.going.run_by.Given as goal

abbrev pub invariant-steps : goal.invariant-steps
invariant-steps g l = record {
  way : IsUnderWay l.prog l.fn.db l.keeps l.refusing l.number l.going l.db;
  moves : l.moves ≤ l.fn.moves + cost_of_first_by (g.J.Joiner.most l.by) l.number l.prog (state_of l.fn.db);
  rises : l.fn.moves ≤ l.moves;
}

abbrev pub decreases-steps : goal.decreases-steps
decreases-steps g l = length l.prog - l.number
