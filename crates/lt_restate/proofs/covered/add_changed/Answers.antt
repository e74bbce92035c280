use Rattle.std.proofs.Common.{length, arith}
use Rattle.lt_base.specs.Tables.{state_of}
use Rattle.lt_model.specs.Marks.{laid}
use Rattle.lt_program.specs.Tally.{state_before, sense_of}
use Rattle.lt_restate.specs.Covered.{IsCoveredChange}
use Rattle.lt_restate.proofs.Covering.{marked_more, marked_whole}
use Rattle.lt_restate.proofs.covered.add_changed.Goals as goal

pub loop-i-preserved : goal.loop-i-preserved
loop-i-preserved c =
    marked_more (IsCoveredChange (sense_of c.args.part.now) (laid (state_of c.args.old.now.base) c.args.past.now) (state_before (length c.args.new.now.parts) c.args.new.now.program (state_of c.args.new.now.base))) c.args.marks.now c.loop-i.i c.mark-mark.result.now c.mark-mark.ensures c.args.changes.now c.loop-i.changes c.add_if_changed.new.changes c.loop-i.invariant c.in_ok-add_if_changed.ensures.gains c.in_ok-add_if_changed.ensures.there

pub returns-clause-gains : goal.returns-clause-gains
returns-clause-gains c = c.loop-i.invariant.gains

pub returns-clause-all : goal.returns-clause-all
returns-clause-all c = marked_whole (IsCoveredChange (sense_of c.args.part.now) (laid (state_of c.args.old.now.base) c.args.past.now) (state_before (length c.args.new.now.parts) c.args.new.now.program (state_of c.args.new.now.base))) c.args.marks.now c.loop-i.i c.args.changes.now c.loop-i.changes (omega (arith, c.len-i-end.ensures.count)) c.loop-i.invariant
