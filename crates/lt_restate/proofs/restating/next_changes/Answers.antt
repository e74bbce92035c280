use Rattle.std.proofs.Common.{subst, length}
use Rattle.lt_model.specs.Marks.{laid}
use Rattle.lt_base.specs.Tables.{state_of}
use Rattle.lt_program.specs.Part.{Part}
use Rattle.lt_program.specs.Tally.{sense_of}
use Rattle.lt_restate.specs.Covered.{AreCoveredChanges}
use Rattle.lt_restate.specs.Touches.{before}
use Rattle.lt_restate.proofs.Steps.{tight_by, changes_here}
use Rattle.lt_restate.proofs.restating.next_changes.Goals as goal

pub covered_changes-requires-clause-tight : goal.covered_changes-requires-clause-tight
covered_changes-requires-clause-tight c =
    tight_by c.args.old.now c.args.new.now c.args.old_on.now c.args.new_on.now c.args.walk.now c.requires.under_way c.args.part.now c.requires.part c.part.result.now c.part.ensures

pub returns-clause-changes : goal.returns-clause-changes
returns-clause-changes c =
    changes_here c.args.old.now c.args.new.now c.args.old_on.now c.args.new_on.now c.args.walk.now c.requires.under_way c.args.part.now c.requires.part c.in_ok-changes.changes
    (subst (λ (p : Part). AreCoveredChanges (sense_of p) (laid (state_of c.args.old.now.base) c.args.walk.now.past) (before (length c.args.new.now.parts) c.args.new.now) c.in_ok-changes.changes) c.part.ensures c.in_ok-changes.ensures.changes)
