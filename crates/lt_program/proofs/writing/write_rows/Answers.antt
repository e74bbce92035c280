use Rattle.std.proofs.Common.{◌∙◌, List, [], ◌∷◌, sym, subst}
use Rattle.std.proofs.lemmas.List.{take_all}
use Rattle.lt_base.specs.Tables.{state_of}
use Rattle.lt_face.specs.State.{Row}
use Rattle.lt_model.specs.Effect.{marks_on}
use Rattle.lt_model.specs.State.{IsState}
use Rattle.lt_delta.proofs.Kept.{IsState-laid}
use Rattle.lt_program.specs.Undo.{IsWritten}
use Rattle.lt_program.proofs.Undone.{mark_on_row, row_fits, row_written, back_noted, written_none}
use Rattle.lt_program.proofs.writing.write_rows.Goals as goal

pub loop-row-init : goal.loop-row-init
loop-row-init c = record { good = c.requires.state; written = written_none c.args.logs c.args.db.now c.args.undo.now.items }

pub edit-requires : goal.edit-requires
edit-requires c =
    row_fits (state_of c.args.db.now) (state_of c.loop-row.db) c.args.relation c.args.plus c.args.rows.now c.loop-row.row-index c.row-item.result c.loop-row-test.true c.row-item.is c.loop-row.invariant.written.state c.requires.fits

pub loop-row-preserved : goal.loop-row-preserved
loop-row-preserved c =
    let fits = row_fits (state_of c.args.db.now) (state_of c.loop-row.db) c.args.relation c.args.plus c.args.rows.now c.loop-row.row-index c.row-item.result c.loop-row-test.true c.row-item.is c.loop-row.invariant.written.state c.requires.fits in
    record {
      good = subst IsState (sym c.in_ok-changed.ensures.state) (IsState-laid (state_of c.loop-row.db) (mark_on_row c.args.relation c.args.plus c.row-item.result ∷ []) c.loop-row.invariant.good fits);
      written = record {
        state = row_written (state_of c.args.db.now) (state_of c.loop-row.db) c.args.relation c.args.plus c.args.rows.now c.loop-row.row-index c.row-item.result c.loop-row-test.true c.row-item.is c.loop-row.invariant.written.state (state_of c.edit.new.self) c.in_ok-changed.ensures.state;
        indexes = λ relation columns. c.in_ok-changed.ensures.indexes relation columns ∙ c.loop-row.invariant.written.indexes relation columns;
        back = λ on base begun.
            back_noted base (state_of c.loop-row.db) (state_of c.edit.new.self) (mark_on_row c.args.relation c.args.plus c.row-item.result) c.loop-row.invariant.good fits c.in_ok-changed.ensures.state
            c.loop-row.undo.items c.note.new.undo.items c.in_ok-changed.changed c.args.logs c.in_ok-changed.ensures.changed c.in_ok-note.ensures.idle c.in_ok-note.ensures.noted on (c.loop-row.invariant.written.back on base begun);
      };
    }

pub returns : goal.returns
returns c =
    subst (λ (rows : List Row). IsWritten (marks_on c.args.relation c.args.plus rows) c.args.logs c.args.db.now c.loop-row.db c.args.undo.now.items c.loop-row.undo.items) (take_all c.loop-row.row-index c.args.rows.now c.loop-row-test.false) c.loop-row.invariant.written
