use Rattle.std.proofs.Common.{sym, subst}
use Rattle.lt_face.specs.State.{State, AgreeOn}
use Rattle.lt_model.specs.Fits.{Fits}
use Rattle.lt_model.specs.Marks.{laid}
use Rattle.lt_base.specs.Tables.{state_of}
use Rattle.lt_program.specs.Tally.{HasIndexes}
use Rattle.lt_batch.proofs.Runs.{agree_laid, marked_or_agree}
use Rattle.lt_restate.proofs.Asking.{laid_relations}
use Rattle.lt_run_trials.proofs.restatement.again.Goals as goal

pub restate_marks-requires-clause-fits : goal.restate_marks-requires-clause-fits
restate_marks-requires-clause-fits c = subst (Fits (state_of c.in_ok-next.next)) (sym c.requires.program) c.in_ok-next.ensures.fits

pub restate_marks-requires-clause-indexes : goal.restate_marks-requires-clause-indexes
restate_marks-requires-clause-indexes c = subst (HasIndexes c.in_ok-next.next) (sym c.requires.program) c.in_ok-next.ensures.indexes

pub restate_marks-requires-clause-relations : goal.restate_marks-requires-clause-relations
restate_marks-requires-clause-relations c = laid_relations (state_of c.args.db.now) (state_of c.args.old.now.base) (state_of c.in_ok-next.next) c.args.first.now c.args.second.now c.requires.base c.in_ok-next.ensures.state

pub restate_marks-requires-clause-marked : goal.restate_marks-requires-clause-marked
restate_marks-requires-clause-marked c =
    let snapshot = state_of c.args.db.now in
    let a = c.args.first.now in
    let b = c.args.second.now in
    marked_or_agree a b (state_of c.args.old.now.base) (state_of c.in_ok-next.next) (λ relation row same.
    subst (λ (s : State). AgreeOn (state_of c.args.old.now.base) s relation row) (sym c.in_ok-next.ensures.state)
    (subst (λ (s : State). AgreeOn s (laid snapshot b) relation row) (sym c.requires.base)
    (agree_laid snapshot a b c.requires.first c.requires.second relation row same)))
