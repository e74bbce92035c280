use Rattle.std.proofs.Common.{◌∙◌, length, ap, sym}
use Rattle.lt_model.specs.Marks.{laid}
use Rattle.lt_base.specs.Tables.{state_of}
use Rattle.lt_program.specs.Tally.{state_before, sense_of}
use Rattle.lt_restate.proofs.Asking.{change_askable}
use Rattle.lt_restate.proofs.covered.is_covered_change.Goals as goal

pub returns-then-covers-clause-yes : goal.returns-then-covers-clause-yes
returns-then-covers-clause-yes c = λ changed. record {
  covered = sym (c.covers.ensures (change_askable (state_of c.args.old.now.base) (state_of c.args.new.now.base) c.requires.alike c.args.past.now c.args.new.now.marks c.requires.fits c.marks-marks.ensures.fits (state_before (length c.args.new.now.parts) c.args.new.now.program (state_of c.args.new.now.base)) (ap (laid (state_of c.args.new.now.base)) c.marks-marks.ensures.run.marks)
      c.args.mark.now.relation c.args.mark.now.row (sym c.is_changed.ensures ∙ changed) (sense_of c.args.part.now) c.requires.tight)) ∙ c.if-covers.true;
  differs = sym c.is_changed.ensures ∙ changed;
}

pub returns-else-covers-clause-no : goal.returns-else-covers-clause-no
returns-else-covers-clause-no c = λ is.
    c.covers.ensures (change_askable (state_of c.args.old.now.base) (state_of c.args.new.now.base) c.requires.alike c.args.past.now c.args.new.now.marks c.requires.fits c.marks-marks.ensures.fits (state_before (length c.args.new.now.parts) c.args.new.now.program (state_of c.args.new.now.base)) (ap (laid (state_of c.args.new.now.base)) c.marks-marks.ensures.run.marks)
    c.args.mark.now.relation c.args.mark.now.row is.differs (sense_of c.args.part.now) c.requires.tight)
    ∙ is.covered
