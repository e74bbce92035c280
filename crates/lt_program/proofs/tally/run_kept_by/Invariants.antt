use Rattle.std.proofs.Common.{◌≡◌, ◌+◌, ◌-◌, ◌≤◌, length}
use Rattle.std.specs.Arc.{arc_value}
use Rattle.lt_base.specs.Tables.{state_of}
use Rattle.lt_program.specs.Split.{cost_of_first_by}
use Rattle.lt_program.proofs.tally.run_kept_by.Given as goal

abbrev pub invariant-statements : goal.invariant-statements
invariant-statements g l = record {
  program : l.tally.program ≡ arc_value l.prog;
  base : l.tally.base ≡ l.base;
  moves : l.moves ≤ l.fn.moves + cost_of_first_by (g.J.Joiner.most l.by) (length l.tally.parts) (arc_value l.prog) (state_of l.base);
  rises : l.fn.moves ≤ l.moves;
}

abbrev pub decreases-statements : goal.decreases-statements
decreases-statements g l = length l.tally.program - length l.tally.parts
