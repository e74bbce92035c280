use Rattle.std.proofs.Common.{List, true, false, sym, subst}
use Rattle.lt_base.specs.Tables.{state_of}
use Rattle.lt_face.specs.State.{Row}
use Rattle.lt_model.specs.Effect.{marks_on}
use Rattle.lt_model.specs.Fits.{FitMarks}
use Rattle.lt_program.specs.Kept.{displaced_rows, second_rows}
use Rattle.lt_program.specs.Undo.{IsWritten}
use Rattle.lt_program.proofs.LaterMarks.{both_fit}
use Rattle.lt_program.proofs.MarkedRows.{AreMarks-map}
use Rattle.lt_program.proofs.Undone.{written_then, state_behind, fits_behind}
use Rattle.lt_program.proofs.writing.write_coming.Goals as goal

pub write_rows-requires-clause-fits : goal.write_rows-requires-clause-fits
write_rows-requires-clause-fits c =
    subst (λ (rows : List Row). FitMarks (state_of c.args.db.now) (marks_on c.args.relation false rows)) (sym c.displaced_of-gone.ensures)
    (both_fit (state_of c.args.db.now) (marks_on c.args.relation false (displaced_rows c.args.outcome.now)) (marks_on c.args.relation true (second_rows c.args.outcome.now)) c.requires.fits).0

pub write_rows-requires-2-clause-state : goal.write_rows-requires-2-clause-state
write_rows-requires-2-clause-state c =
    let both = both_fit (state_of c.args.db.now) (marks_on c.args.relation false (displaced_rows c.args.outcome.now)) (marks_on c.args.relation true (second_rows c.args.outcome.now)) c.requires.fits in
    state_behind (marks_on c.args.relation false c.displaced_of-gone.result.now) c.args.logs c.args.db.now c.write_rows.new.db c.args.undo.now.items c.write_rows.new.undo.items c.requires.state
    (subst (λ (rows : List Row). FitMarks (state_of c.args.db.now) (marks_on c.args.relation false rows)) (sym c.displaced_of-gone.ensures) both.0) c.in_ok-write_rows.ensures

pub write_rows-requires-2-clause-fits : goal.write_rows-requires-2-clause-fits
write_rows-requires-2-clause-fits c =
    let both = both_fit (state_of c.args.db.now) (marks_on c.args.relation false (displaced_rows c.args.outcome.now)) (marks_on c.args.relation true (second_rows c.args.outcome.now)) c.requires.fits in
    fits_behind (marks_on c.args.relation false c.displaced_of-gone.result.now) (marks_on c.args.relation true c.second_of-come.result.now) c.args.logs c.args.db.now c.write_rows.new.db c.args.undo.now.items c.write_rows.new.undo.items
    (subst (λ (rows : List Row). FitMarks (state_of c.args.db.now) (marks_on c.args.relation true rows)) (sym c.second_of-come.ensures) both.1) c.in_ok-write_rows.ensures

pub returns : goal.returns
returns c =
    let first = subst (λ (rows : List Row). IsWritten (marks_on c.args.relation false rows) c.args.logs c.args.db.now c.write_rows.new.db c.args.undo.now.items c.write_rows.new.undo.items) c.displaced_of-gone.ensures c.in_ok-write_rows.ensures in
    let second = subst (λ (rows : List Row). IsWritten (marks_on c.args.relation true rows) c.args.logs c.write_rows.new.db c.write_rows-2.new.db c.write_rows.new.undo.items c.write_rows-2.new.undo.items) c.second_of-come.ensures c.in_ok-write_rows-2.ensures in
    written_then (marks_on c.args.relation false (displaced_rows c.args.outcome.now)) (marks_on c.args.relation true (second_rows c.args.outcome.now)) c.args.logs c.args.db.now c.write_rows.new.db c.write_rows-2.new.db
    c.args.undo.now.items c.write_rows.new.undo.items c.write_rows-2.new.undo.items c.requires.state (AreMarks-map c.args.relation false (displaced_rows c.args.outcome.now) c.requires.ordered.displaced) first second
