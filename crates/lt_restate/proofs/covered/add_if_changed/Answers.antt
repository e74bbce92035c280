use Rattle.std.proofs.Common.{length}
use Rattle.lt_base.specs.Tables.{state_of}
use Rattle.lt_model.specs.Marks.{laid}
use Rattle.lt_program.specs.Tally.{state_before, sense_of}
use Rattle.lt_restate.proofs.Covering.{change_gains, change_added}
use Rattle.lt_restate.proofs.covered.add_if_changed.Goals as goal

pub returns-then-is_covered_change-clause-gains : goal.returns-then-is_covered_change-clause-gains
returns-then-is_covered_change-clause-gains c =
    change_gains (sense_of c.args.part.now) (laid (state_of c.args.old.now.base) c.args.past.now) (state_before (length c.args.new.now.parts) c.args.new.now.program (state_of c.args.new.now.base)) c.args.mark.now c.copy_row.result c.copy_row.ensures c.args.changes.now c.push.new.self c.in_ok-push.ensures.ok (c.is_covered_change.ensures.yes c.if-is_covered_change.true).covered (c.is_covered_change.ensures.yes c.if-is_covered_change.true).differs

pub returns-then-is_covered_change-clause-there : goal.returns-then-is_covered_change-clause-there
returns-then-is_covered_change-clause-there c = λ h.
    change_added (sense_of c.args.part.now) (laid (state_of c.args.old.now.base) c.args.past.now) (state_before (length c.args.new.now.parts) c.args.new.now.program (state_of c.args.new.now.base)) c.args.mark.now c.copy_row.result c.copy_row.ensures c.args.changes.now c.push.new.self c.in_ok-push.ensures.ok
