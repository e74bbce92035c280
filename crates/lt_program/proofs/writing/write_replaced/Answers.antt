use Rattle.std.proofs.Common.{List, false, sym, subst}
use Rattle.lt_base.specs.Tables.{state_of}
use Rattle.lt_face.specs.State.{Row}
use Rattle.lt_model.specs.Effect.{marks_on, displacing}
use Rattle.lt_model.specs.Fits.{FitMarks}
use Rattle.lt_model.specs.Marks.{Marks}
use Rattle.lt_program.specs.Kept.{first_rows, displaced_rows, second_rows, replaced_by}
use Rattle.lt_program.specs.Undo.{IsWritten}
use Rattle.lt_program.proofs.LaterMarks.{both_fit}
use Rattle.lt_program.proofs.MarkedRows.{AreMarks-map}
use Rattle.lt_program.proofs.Undone.{written_then, state_behind, fits_behind, coming_is}
use Rattle.lt_program.proofs.writing.write_replaced.Goals as goal

pub write_rows-requires-clause-fits : goal.write_rows-requires-clause-fits
write_rows-requires-clause-fits c =
    subst (λ (rows : List Row). FitMarks (state_of c.args.db.now) (marks_on c.args.left false rows)) (sym c.first_of-gone.ensures)
    (both_fit (state_of c.args.db.now) (marks_on c.args.left false (first_rows c.args.outcome.now)) (replaced_by c.args.entered c.args.outcome.now) c.requires.fits).0

pub write_coming-requires-clause-state : goal.write_coming-requires-clause-state
write_coming-requires-clause-state c =
    let both = both_fit (state_of c.args.db.now) (marks_on c.args.left false (first_rows c.args.outcome.now)) (replaced_by c.args.entered c.args.outcome.now) c.requires.fits in
    state_behind (marks_on c.args.left false c.first_of-gone.result.now) c.args.logs c.args.db.now c.write_rows.new.db c.args.undo.now.items c.write_rows.new.undo.items c.requires.state
    (subst (λ (rows : List Row). FitMarks (state_of c.args.db.now) (marks_on c.args.left false rows)) (sym c.first_of-gone.ensures) both.0) c.in_ok-write_rows.ensures

pub write_coming-requires-clause-fits : goal.write_coming-requires-clause-fits
write_coming-requires-clause-fits c =
    let both = both_fit (state_of c.args.db.now) (marks_on c.args.left false (first_rows c.args.outcome.now)) (replaced_by c.args.entered c.args.outcome.now) c.requires.fits in
    fits_behind (marks_on c.args.left false c.first_of-gone.result.now) (displacing c.args.entered (displaced_rows c.args.outcome.now) (second_rows c.args.outcome.now)) c.args.logs c.args.db.now c.write_rows.new.db c.args.undo.now.items c.write_rows.new.undo.items
    (subst (FitMarks (state_of c.args.db.now)) (sym (coming_is c.args.entered c.args.outcome.now c.requires.ordered)) both.1) c.in_ok-write_rows.ensures

pub returns : goal.returns
returns c =
    let first = subst (λ (rows : List Row). IsWritten (marks_on c.args.left false rows) c.args.logs c.args.db.now c.write_rows.new.db c.args.undo.now.items c.write_rows.new.undo.items) c.first_of-gone.ensures c.in_ok-write_rows.ensures in
    let second = subst (λ (m : Marks). IsWritten m c.args.logs c.write_rows.new.db c.write_coming.new.db c.write_rows.new.undo.items c.write_coming.new.undo.items) (coming_is c.args.entered c.args.outcome.now c.requires.ordered) c.in_ok-write_coming.ensures in
    written_then (marks_on c.args.left false (first_rows c.args.outcome.now)) (replaced_by c.args.entered c.args.outcome.now) c.args.logs c.args.db.now c.write_rows.new.db c.write_coming.new.db
    c.args.undo.now.items c.write_rows.new.undo.items c.write_coming.new.undo.items c.requires.state (AreMarks-map c.args.left false (first_rows c.args.outcome.now) c.requires.ordered.first) first second
