use Rattle.std.proofs.Common.{sym, ap, subst, map}
use Rattle.std.specs.Arc.{arc_value}
use Rattle.std.specs.List.{AllByRecursion}
use Rattle.lt_model.specs.Fits.{Fits}
use Rattle.lt_base.specs.Tables.{state_of}
use Rattle.lt_batch.proofs.FittingRuns.{snapshot_of}
use Rattle.lt_batch.proofs.work.BatchWork.over.Goals as goal

pub all_indexed-requires-clause-fits : goal.all_indexed-requires-clause-fits
all_indexed-requires-clause-fits g c = λ lifetimes outlive.
    subst (AllByRecursion (Fits (state_of c.args.db.now))) (sym (ap (λ planned. map arc_value planned) c.as_slice.ensures.value)) c.requires.fit

pub returns-clause-runnable : goal.returns-clause-runnable
returns-clause-runnable g c =
    rw c.in_ok-snapshot.ensures.state (record { snapshot = snapshot_of (state_of c.args.db.now) c.look_over.ensures.state c.look_over.ensures.wide; fit = c.requires.fit })
