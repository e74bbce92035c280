use Rattle.std.proofs.Common.{◌≡◌, ◌∙◌, length, ap, subst}
use Rattle.lt_face.specs.State.{State}
use Rattle.lt_model.specs.Marks.{Marks, laid}
use Rattle.lt_base.specs.Changed.{differ_on}
use Rattle.lt_base.specs.Tables.{state_of}
use Rattle.lt_program.specs.Tally.{state_before, sense_of}
use Rattle.lt_restate.specs.Covered.{IsCoveredChange, AreCoveredChanges}
use Rattle.lt_restate.proofs.Asking.{row_of_change}
use Rattle.lt_restate.proofs.Covering.{Told, each_row, four_lists}
use Rattle.lt_restate.proofs.Going.{marked_somewhere}
use Rattle.lt_restate.proofs.covered.covered_changes.Goals as goal

found : (c : goal.In_ok-add_changed-4) → AreCoveredChanges (sense_of c.args.part.now) (laid (state_of c.args.old.now.base) c.args.past.now) (state_before (length c.args.new.now.parts) c.args.new.now.program (state_of c.args.new.now.base)) c.add_changed-4.new.changes
found c =
    let s = (laid (state_of c.args.old.now.base) c.args.past.now) in
    let t = (state_before (length c.args.new.now.parts) c.args.new.now.program (state_of c.args.new.now.base)) in
    let state_is : laid (state_of c.args.new.now.base) c.args.new.now.marks ≡ t = ap (laid (state_of c.args.new.now.base)) c.marks-marks.ensures.run.marks in
    four_lists (sense_of c.args.part.now) s t c.args.old_on.now c.args.new_on.now c.args.past.now c.args.new.now.marks c.new-changes.result c.add_changed.new.changes c.add_changed-2.new.changes c.add_changed-3.new.changes c.add_changed-4.new.changes c.new-changes.ensures
    c.in_ok-add_changed.ensures.gains c.in_ok-add_changed.ensures.all c.in_ok-add_changed-2.ensures.gains c.in_ok-add_changed-2.ensures.all c.in_ok-add_changed-3.ensures.gains c.in_ok-add_changed-3.ensures.all c.in_ok-add_changed-4.ensures.gains
    (subst (λ (m : Marks). Told (IsCoveredChange (sense_of c.args.part.now) s t) m c.add_changed-4.new.changes) c.marks-marks.ensures.marks c.in_ok-add_changed-4.ensures.all)
    (λ relation row differs. marked_somewhere (state_of c.args.old.now.base) (state_of c.args.new.now.base) relation row c.args.past.now c.args.new.now.marks c.args.old_on.now c.args.new_on.now c.requires.fits c.marks-marks.ensures.fits (c.requires.bases relation row) (ap (λ (x : State). differ_on s x relation row) state_is ∙ differs))

pub returns-clause-changes : goal.returns-clause-changes
returns-clause-changes c = found c

pub returns-clause-rows : goal.returns-clause-rows
returns-clause-rows c =
    each_row (state_of c.args.old.now.base) c.add_changed-4.new.changes (λ change there.
    row_of_change (state_of c.args.old.now.base) (state_of c.args.new.now.base) c.requires.alike c.args.past.now c.args.new.now.marks c.requires.fits c.marks-marks.ensures.fits (state_before (length c.args.new.now.parts) c.args.new.now.program (state_of c.args.new.now.base)) (ap (laid (state_of c.args.new.now.base)) c.marks-marks.ensures.run.marks) change.0 change.1
    ((found c).each change there).differs)
