use Rattle.std.proofs.Common.{◌≤◌, All, subst, arith}
use Rattle.std.proofs.lemmas.List.{take_all}
use Rattle.std.proofs.lemmas.List.Elements.{All-more}
use Rattle.lt_picture.specs.declared.batch.Batch.{Batch}
use Rattle.lt_picture.proofs.picture.most_entries.Goals as goal

pub loop-batch-preserved : goal.loop-batch-preserved
loop-batch-preserved c =
    All-more (λ (batch : Batch). batch.events ≤ c.max-entries.result) c.args.batches.now c.loop-batch.batch-index c.batch-item.result (omega (arith, c.loop-batch-test.true)) (λ k d below. omega (arith, c.loop-batch.invariant k d below, c.max-entries.ensures)) (subst (λ (batch : Batch). batch.events ≤ c.max-entries.result) c.batch-item.is (omega (arith, c.max-entries.ensures)))

pub returns : goal.returns
returns c = subst (All (λ (batch : Batch). batch.events ≤ c.loop-batch.entries)) (take_all c.loop-batch.batch-index c.args.batches.now (omega (arith, c.loop-batch-test.false))) c.loop-batch.invariant
