use Rattle.std.proofs.Common.{◌∙◌, List, sym, ap, subst}
use Rattle.std.specs.Arc.{arc_value}
use Rattle.lt_model.specs.declared.normal.Stmt.{Stmt}
use Rattle.lt_model.specs.Run.{run}
use Rattle.lt_model.specs.Fits.{Fits}
use Rattle.lt_model.proofs.Composition.{same_widths}
use Rattle.lt_base.specs.Tables.{state_of}
use Rattle.lt_program.specs.Tally.{HasIndexes}
use Rattle.lt_restate.specs.Bases.{widths}
use Rattle.lt_batch.proofs.Runs.{bases_marked, tally_is}
use Rattle.lt_batch.proofs.work.restated.Goals as goal

pub corrected-requires-clause-fits : goal.corrected-requires-clause-fits
corrected-requires-clause-fits g c = subst (Fits (state_of c.args.snapshot.now)) (sym c.deref.ensures) c.requires.fits

pub corrected-requires-clause-indexes : goal.corrected-requires-clause-indexes
corrected-requires-clause-indexes g c = subst (HasIndexes c.args.snapshot.now) (sym c.deref.ensures) c.requires.indexes

pub restate_marks-requires-clause-ended : goal.restate_marks-requires-clause-ended
restate_marks-requires-clause-ended g c = c.requires.prior.2.run.ended

pub restate_marks-requires-clause-fits : goal.restate_marks-requires-clause-fits
restate_marks-requires-clause-fits g c = subst (Fits (state_of c.in_ok-base.base)) (sym c.requires.prior.2.run.program) (subst (Fits (state_of c.in_ok-base.base)) c.deref.ensures c.in_ok-base.ensures.fits)

pub restate_marks-requires-clause-indexes : goal.restate_marks-requires-clause-indexes
restate_marks-requires-clause-indexes g c = subst (HasIndexes c.in_ok-base.base) (sym c.requires.prior.2.run.program) (subst (HasIndexes c.in_ok-base.base) c.deref.ensures c.in_ok-base.ensures.indexes)

pub restate_marks-requires-clause-marked : goal.restate_marks-requires-clause-marked
restate_marks-requires-clause-marked g c =
    bases_marked (state_of c.args.snapshot.now) (state_of c.args.old.now.run.base) (state_of c.in_ok-base.base) c.requires.prior.0 c.args.on.now c.args.old.now.on
    c.requires.prior.2.run.base c.in_ok-base.ensures.state c.requires.prior.2.same_on c.requires.prior.1 c.requires.marks

pub restate_marks-requires-clause-relations : goal.restate_marks-requires-clause-relations
restate_marks-requires-clause-relations g c =
    ap widths c.in_ok-base.ensures.state ∙ (same_widths (state_of c.args.snapshot.now) c.args.on.now
    ∙ (sym (same_widths (state_of c.args.snapshot.now) c.requires.prior.0) ∙ sym (ap widths c.requires.prior.2.run.base)))

pub returns-clause-run : goal.returns-clause-run
returns-clause-run g c =
    let is = c.in_ok-out.ensures.restated in
    tally_is (arc_value c.args.prog.now) (state_of c.args.snapshot.now) c.args.on.now c.in_ok-base.base c.in_ok-out.out.0 c.in_ok-base.ensures.state
    (is.program ∙ c.requires.prior.2.run.program) is.base is.ended is.run
    (is.reply ∙ ap (λ (p : List Stmt). (run p (state_of c.in_ok-base.base)).0) c.requires.prior.2.run.program)
    (is.marks ∙ ap (λ (p : List Stmt). (run p (state_of c.in_ok-base.base)).1) c.requires.prior.2.run.program)

pub returns-clause-restated : goal.returns-clause-restated
returns-clause-restated g c = (c.in_ok-out.out.1, c.in_ok-out.ensures.restated.touches)
