use Rattle.std.proofs.Common.{◌≡◌, ◌+◌, ◌-◌, ◌∙◌, sym, subst, arith}
use Rattle.lt_base.specs.Tables.{state_of}
use Rattle.lt_face.specs.State.{State}
use Rattle.lt_model.specs.Fits.{FitMarks}
use Rattle.lt_delta.proofs.Kept.{FitMarks-lay}
use Rattle.lt_program.proofs.Undone.{mark_on_row, undone_one, edit_fits}
use Rattle.lt_program.proofs.writing.take_back.Goals as goal

pub edit-requires : goal.edit-requires
edit-requires c = edit_fits (state_of c.edits.db) c.args.undo.now (c.edits.left - 1) c.index-undo-left.result c.edits.invariant.fits (omega (arith, c.edits-test.true, c.edits.invariant.within)) c.index-undo-left.is

pub edits-preserved : goal.edits-preserved
edits-preserved c =
    let one : (c.edits.left - 1) + 1 ≡ c.edits.left = omega (arith, c.edits-test.true) in
    record {
      within = omega (arith, c.edits.invariant.within);
      fits = subst (λ (s : State). FitMarks s c.args.undo.now) (sym c.in_ok-edit.ensures.state) (FitMarks-lay (state_of c.edits.db) (mark_on_row c.index-undo-left.result.relation c.index-undo-left.result.plus c.index-undo-left.result.row) c.args.undo.now c.edits.invariant.fits);
      state =
          undone_one (state_of c.edits.db) (state_of c.edit.new.self) c.args.undo.now (c.edits.left - 1) c.edits.left c.index-undo-left.result one c.edits.invariant.within c.index-undo-left.is c.in_ok-edit.ensures.state
          ∙ c.edits.invariant.state;
      indexes = λ r columns. c.in_ok-edit.ensures.indexes r columns ∙ c.edits.invariant.indexes r columns;
    }
