use Rattle.std.proofs.Common.{◌∙◌, List, ap, inl, inr, subst, sym}
use Rattle.lt_model.specs.declared.normal.Stmt.{Stmt}
use Rattle.lt_model.specs.Fits.{Fits, FitMarks}
use Rattle.lt_model.specs.Run.{run}
use Rattle.lt_base.specs.Tables.{state_of}
use Rattle.lt_program.specs.Tally.{HasIndexes}
use Rattle.lt_batch.proofs.ahead.corrected.Goals as goal

pub restate_marks-requires-clause-ended : goal.restate_marks-requires-clause-ended
restate_marks-requires-clause-ended c = c.requires.kept.ended

pub restate_marks-requires-clause-fits : goal.restate_marks-requires-clause-fits
restate_marks-requires-clause-fits c = subst (Fits (state_of c.args.db.now)) (sym c.requires.kept.program) c.requires.fits

pub restate_marks-requires-clause-indexes : goal.restate_marks-requires-clause-indexes
restate_marks-requires-clause-indexes c = subst (HasIndexes c.args.db.now) (sym c.requires.kept.program) c.requires.indexes

pub restate_marks-requires-clause-relations : goal.restate_marks-requires-clause-relations
restate_marks-requires-clause-relations c = c.requires.kept.relations

pub restate_marks-requires-clause-marked : goal.restate_marks-requires-clause-marked
restate_marks-requires-clause-marked c = λ relation row. elim (c.requires.kept.marked relation row) [ inl same ↦ inl same | inr named ↦ inr (inr named) ]

pub returns : goal.returns
returns c =
    let is = c.in_ok-out.ensures.restated in
    let program = c.requires.kept.program in
    let marks = c.in_ok-marks.ensures ∙ c.marks.ensures.marks ∙ is.marks ∙ ap (λ (p : List Stmt). (run p (state_of c.args.db.now)).1) program in
    record {
      reply = c.into_reply-reply.ensures.reply ∙ is.reply ∙ ap (λ (p : List Stmt). (run p (state_of c.args.db.now)).0) program;
      marks = marks;
      fits = subst (FitMarks (state_of c.args.db.now)) (sym (c.in_ok-marks.ensures ∙ c.marks.ensures.marks)) is.fits;
      printed = c.into_reply-reply.ensures.printed;
    }
