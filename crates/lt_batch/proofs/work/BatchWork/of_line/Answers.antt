use Rattle.std.proofs.Common.{◌∙◌, sym, subst}
use Rattle.std.specs.List.{AllByRecursion}
use Rattle.lt_model.specs.Fits.{Fits}
use Rattle.lt_base.specs.Tables.{state_of}
use Rattle.lt_batch.specs.Line.{programs_of}
use Rattle.lt_batch.specs.Spans.{parted}
use Rattle.lt_batch.specs.Work.{IsSnapshot}
use Rattle.lt_batch.proofs.Leaves.{is_leaf}
use Rattle.lt_batch.proofs.LineLists.{batch_small}
use Rattle.lt_batch.proofs.SpanLists.{each_joined}
use Rattle.lt_batch.proofs.work.BatchWork.of_line.Goals as goal

pub over-requires-clause-fit : goal.over-requires-clause-fit
over-requires-clause-fit g c = λ lifetimes outlive.
    subst (AllByRecursion (Fits (state_of c.args.db.now))) (sym c.in_ok-programs.ensures.all) (each_joined (Fits (state_of c.args.db.now)) (programs_of c.args.batches.now) c.requires.fit)

pub returns-clause-batches : goal.returns-clause-batches
returns-clause-batches g c = c.in_ok-work.ensures.batches ∙ c.in_ok-programs.ensures.parted

pub returns-clause-runnable : goal.returns-clause-runnable
returns-clause-runnable g c = c.in_ok-work.ensures.runnable.snapshot

pub returns-clause-leaves : goal.returns-clause-leaves
returns-clause-leaves g c = λ s i below.
    is_leaf c.in_ok-work.work (state_of c.args.db.now) (programs_of c.args.batches.now) s i c.in_ok-work.ensures.snapshot (c.in_ok-work.ensures.batches ∙ c.in_ok-programs.ensures.parted)
    (subst IsSnapshot c.in_ok-work.ensures.snapshot c.in_ok-work.ensures.runnable.snapshot) c.requires.fit (batch_small (programs_of c.args.batches.now) s i c.requires.few below) below
