use Rattle.std.proofs.Common.{◌∙◌, sym, ap, take, [], ◌∷◌}
use Rattle.lt_face.specs.State.{State}
use Rattle.lt_model.specs.Fits.{IsMarkOf}
use Rattle.lt_model.specs.Marks.{laid}
use Rattle.lt_base.specs.Tables.{state_of}
use Rattle.lt_delta.proofs.Edited.{mark_at}
use Rattle.lt_base.proofs.OneRow.{laid_next, fits_next}
use Rattle.lt_base.proofs.database.Database.lay.Goals as goal

pub edit-requires : goal.edit-requires
edit-requires c =
    let state = laid (state_of c.args.self.now) (take c.loop-i.i c.args.marks.now) in
    let one = mark_at (IsMarkOf state) c.args.marks.now c.loop-i.i c.mark-mark.result.now (fits_next (state_of c.args.self.now) (take c.loop-i.i c.args.marks.now) c.args.marks.now c.requires) c.mark-mark.ensures in
    rw c.loop-i.invariant.state (record { is_wide = one.is_wide; has_cells = one.has_cells }, tt)

pub loop-i-preserved : goal.loop-i-preserved
loop-i-preserved c = record {
  state =
      c.in_ok-edit.ensures.state
      ∙ ap (λ (s : State). laid s (c.mark-mark.result.now ∷ [])) c.loop-i.invariant.state
      ∙ sym (laid_next (state_of c.args.self.now) c.args.marks.now c.loop-i.i c.mark-mark.result.now c.mark-mark.ensures);
  indexes = λ relation columns. c.in_ok-edit.ensures.indexes relation columns ∙ c.loop-i.invariant.indexes relation columns;
}
