use Rattle.std.proofs.Common.{◌≤◌, ◌+◌, sym, subst}
use Rattle.std.specs.Arc.{arc_value}
use Rattle.lt_face.specs.State.{State}
use Rattle.lt_model.specs.Fits.{Fits}
use Rattle.lt_base.specs.Tables.{state_of}
use Rattle.lt_program.specs.Tally.{HasIndexes, cost_of_first, ends_at}
use Rattle.lt_batch.proofs.Runs.{tally_is}
use Rattle.lt_batch.proofs.work.begun.Goals as goal

pub corrected-requires-clause-fits : goal.corrected-requires-clause-fits
corrected-requires-clause-fits g c = subst (Fits (state_of c.args.snapshot.now)) (sym c.deref.ensures) c.requires.fits

pub corrected-requires-clause-indexes : goal.corrected-requires-clause-indexes
corrected-requires-clause-indexes g c = subst (HasIndexes c.args.snapshot.now) (sym c.deref.ensures) c.requires.indexes

pub run-requires-clause-fits : goal.run-requires-clause-fits
run-requires-clause-fits g c = subst (Fits (state_of c.in_ok-base.base)) c.deref.ensures c.in_ok-base.ensures.fits

pub run-requires-clause-indexes : goal.run-requires-clause-indexes
run-requires-clause-indexes g c = subst (HasIndexes c.in_ok-base.base) c.deref.ensures c.in_ok-base.ensures.indexes

pub returns-clause-run : goal.returns-clause-run
returns-clause-run g c =
    tally_is (arc_value c.args.prog.now) (state_of c.args.snapshot.now) c.args.on.now c.in_ok-base.base c.in_ok-tally.tally c.in_ok-base.ensures.state
    c.in_ok-tally.ensures.program c.in_ok-tally.ensures.base c.in_ok-tally.ensures.ended c.in_ok-tally.ensures.parts c.in_ok-tally.ensures.reply c.in_ok-tally.ensures.marks

pub returns-clause-moves : goal.returns-clause-moves
returns-clause-moves g c = subst (λ (s : State). c.run.new.moves ≤ c.args.moves.now + cost_of_first (ends_at (arc_value c.args.prog.now) s) (arc_value c.args.prog.now) s) c.in_ok-base.ensures.state c.run.ensures.moves
