use Rattle.std.proofs.Common.{◌∙◌, ◌++◌, ap, map, arith}
use Rattle.std.proofs.lemmas.List.{length-map}
use Rattle.std.specs.Arc.{arc_value}
use Rattle.lt_batch.proofs.SpanLists.{batch_short, laid_out_more, laid_out_none}
use Rattle.lt_batch.proofs.spans.laid_out.Goals as goal

pub loop-batch-init : goal.loop-batch-init
loop-batch-init c = rw (c.new-all.ensures.items, c.new-spans.ensures.items) (laid_out_none c.args.batches.now)

pub loop-batch-preserved : goal.loop-batch-preserved
loop-batch-preserved c =
    let below = c.loop-batch-test.true in
    let few = batch_short c.args.batches.now c.loop-batch.batch-index c.batch-item.result below c.batch-item.is c.requires.few in
    rw c.in_ok-push.ensures.items
    (laid_out_more c.args.batches.now c.loop-batch.batch-index c.batch-item.result (map arc_value c.loop-batch.all.items) (map arc_value c.push_all.new.all.items) c.loop-batch.spans.items _
    below c.batch-item.is few (c.in_ok-push_all.ensures ∙ ap (λ bs. map arc_value c.loop-batch.all.items ++ map arc_value bs) c.deref.ensures.value) (omega (arith, length-map c.loop-batch.all.items arc_value)) (omega (arith, length-map c.batch-item.result.items arc_value)) c.loop-batch.invariant)
