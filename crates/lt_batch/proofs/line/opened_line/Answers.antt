use Rattle.std.proofs.Common.{◌∙◌, ◌+◌, ◌*◌, ◌<◌, ap, sym, subst, arith}
use Rattle.lt_base.specs.Tables.{state_of}
use Rattle.lt_net.specs.Line.{size_in}
use Rattle.lt_batch.specs.Line.{programs_of}
use Rattle.lt_batch.specs.Work.{BatchView, IsLeaf, IsSnapshot}
use Rattle.lt_batch.proofs.Leaves.{same_leaf}
use Rattle.lt_batch.proofs.LineLists.{size_at, sizes_few}
use Rattle.lt_batch.proofs.LineOpened.{over_batches, sizes_short}
use Rattle.lt_batch.proofs.SpanLists.{batches_long}
use Rattle.lt_batch.proofs.line.opened_line.Goals as goal

pub start-requires-clause-few : goal.start-requires-clause-few
start-requires-clause-few g c = sizes_few (programs_of c.args.batches.now) c.args.leaves.now c.requires.leaves c.requires.few

pub start-requires-clause-short : goal.start-requires-clause-short
start-requires-clause-short g c = sizes_short c.args.batches.now c.args.leaves.now c.requires.leaves c.requires.short

pub start-requires-clause-has : goal.start-requires-clause-has
start-requires-clause-has g c = λ s i below.
    subst (λ (work : BatchView). IsLeaf work (256 * s + i)) (sym (c.in_ok-clone.ensures.cases ∙ c.in_ok-work-3.ensures.ok))
    (same_leaf c.in_ok-work-2.work c.in_ok-work.work (256 * s + i) c.in_ok-work-2.ensures.batches c.in_ok-work-2.ensures.snapshot
    (c.in_ok-work.ensures.leaves s i (subst (λ n. i < n) (ap (λ zs. size_in zs s) c.requires.leaves ∙ size_at (programs_of c.args.batches.now) s) below)))

pub returns-clause-work : goal.returns-clause-work
returns-clause-work g c = c.in_ok-line.ensures.work ∙ c.in_ok-clone.ensures.cases

pub returns-clause-batches : goal.returns-clause-batches
returns-clause-batches g c = ap (λ (work : BatchView). work.batches) (c.in_ok-line.ensures.work ∙ c.in_ok-clone.ensures.cases ∙ c.in_ok-work-3.ensures.ok) ∙ (c.in_ok-work-2.ensures.batches ∙ c.in_ok-work.ensures.batches)

pub returns-clause-snapshot : goal.returns-clause-snapshot
returns-clause-snapshot g c = ap (λ (work : BatchView). state_of work.snapshot) (c.in_ok-line.ensures.work ∙ c.in_ok-clone.ensures.cases ∙ c.in_ok-work-3.ensures.ok) ∙ (ap state_of c.in_ok-work-2.ensures.snapshot ∙ c.in_ok-work.ensures.snapshot)

pub returns-clause-over : goal.returns-clause-over
returns-clause-over g c =
    over_batches _ _ (state_of c.args.db.now) (programs_of c.args.batches.now) (returns-clause-snapshot g c) (returns-clause-batches g c)
    (subst IsSnapshot c.in_ok-work.ensures.snapshot c.in_ok-work.ensures.runnable) c.requires.fit c.requires.few (c.in_ok-line.ensures.sizes ∙ c.requires.leaves) (omega (arith, batches_long c.args.batches.now, c.requires.short))
